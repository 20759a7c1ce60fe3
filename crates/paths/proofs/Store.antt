-- A record written to memory is an entry put into the table.
use Rattle.std.proofs.Common.{◌≡◌, ℕ, Bool, true, false, cond, T, ◌≢◌, ◌⊎◌, List, get_or, set, sym, refl, ap, ◌∙◌, subst, inl, inr, arith, length-set, get_or-set_other, get_or-set_same}
use Rattle.paths.specs.Table.{TableCell, number_of, Entry, Table}
use Rattle.paths.specs.Machine.{same_cell, put}
use Rattle.paths.specs.Memory.{Rec, blank, written, InRange, Holds}
use Rattle.paths.proofs.Grow.{same_cell_eq, same_cell_refl, put_same}
use Rattle.paths.proofs.Numbers.{same_number, number_below}

-- one cell, or another, whose entry stays
other : (t : Table) (c : TableCell) (e : Entry) (x : TableCell) → (c ≡ x) ⊎ ((c ≡ x → ⊥) × (put t c e x ≡ t x))
other t c e x = go (same_cell c x) (same_cell_eq c x) (λ p. subst (λ (y : TableCell). T (same_cell c y)) p (same_cell_refl c))
  where
    go : (b : Bool) → (T b → c ≡ x) → (c ≡ x → T b) → (c ≡ x) ⊎ ((c ≡ x → ⊥) × (cond b e (t x) ≡ t x))
    go true h k = inl (h tt)
    go false h k = inr (k, refl)

pub writes : (N F : ℕ) (mem : List Rec) (t : Table) (c : TableCell) (e : Entry) → Holds N F mem t → InRange N F c
    → Holds N F (set mem (number_of F c) (written F e)) (put t c e)
writes N F mem t c e h r = record {
  room = (let l = length-set mem (number_of F c) (written F e) in let m = h.room in omega arith);
  each_cell = λ x rx. elim (other t c e x) [
    | inl p ↦ subst (λ (y : TableCell). get_or (set mem (number_of F c) (written F e)) (number_of F y) blank ≡ written F (put t c e y)) p
        (get_or-set_same mem (number_of F c) (written F e) blank
        (let m = h.room in let b = number_below N F c r in omega arith)
        ∙ ap (written F) (sym (put_same t c e)))
    | inr p ↦
        (let ne : number_of F x ≢ number_of F c = λ q. p.0 (same_number N F c x r rx (sym q)) in
        get_or-set_other mem (number_of F c) (number_of F x) (written F e) blank ne ∙ h.each_cell x rx ∙ ap (written F) (sym p.1))
  ];
}
