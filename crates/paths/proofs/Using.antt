-- What a caller may carry from call to call leads to the law.
use Rattle.std.proofs.Common.{ℕ, List, [], ◌∷◌, take, sym, refl, ap, subst}
use Rattle.paths.specs.Tabled.{Tabled}
use Rattle.paths.specs.Does.{Handed, Answer, Turn, no, nothing_left, writes, memory_by, line_turn, line_answer, Call, Line, Newly, not_yet_called, sown, worked, closed, reopened, begun_on, lined, footed, abandoned, trailed}
use Rattle.paths.specs.Law.{OnePage, Reported, Told, Sound}
use Rattle.paths.specs.Usage.{Usage}
use Rattle.paths.proofs.Lawly.{the_law}

one_line : (calls : List Call) (page : List ℕ) (place : ℕ) (turn : Turn) → OnePage calls page
    → OnePage (Line page (line_answer turn) (memory_by turn place page) ∷ calls) (memory_by turn place page)
one_line calls page place (no q) one = one
one_line calls page place nothing_left one = one
one_line calls page place (writes new) one = (refl, one)

pub usage : (H : Handed) → Sound H → (first : Tabled) → Newly H first → Usage H first
usage H sound first new = record {
  opened = record { calls = []; row = not_yet_called; starts_are = refl };
  sown = λ starts p d k t t' s does.
      record { calls = _; row = sown s.row (λ _ _. refl) does; starts_are = ap (λ (xs : List (ℕ × ℕ)). (p, d) ∷ xs) s.starts_are };
  not_sown = λ starts p d q t t' s does. record { calls = _; row = sown s.row (λ _ _. refl) does; starts_are = s.starts_are };
  worked = λ starts k end answer t t' s does. record { calls = _; row = worked s.row (λ _ _. refl) does; starts_are = s.starts_are };
  closed = λ starts answer t s' s does. record { calls = _; row = closed s.row does; starts_are = s.starts_are };
  reopened = λ starts t s. record { calls = _; row = reopened s.row; starts_are = s.starts_are };
  begins = λ starts t page s. record { calls = _; row = begun_on s.row; starts_are = s.starts_are; one = tt };
  lined = λ starts r r' answer page page' s does. record {
    calls = _;
    row = lined s.row does;
    starts_are = s.starts_are;
    one =
        subst (λ (x : Answer). OnePage (Line page x page' ∷ s.calls) page') (sym does.answers)
        (subst (λ (x : List ℕ). OnePage (Line page (line_answer (line_turn r page)) x ∷ s.calls) x) (sym does.holds)
        (one_line s.calls page r.place (line_turn r page) s.one));
  };
  footed = λ starts r s' k page page' s does.
      let row = footed s.row does in (
        subst (λ (xs : List (ℕ × ℕ)). Reported H xs (take k page')) s.starts_are
            ((the_law H sound first new _ s' row).reports [] s.calls k page page' refl s.one),
        record { calls = _; row = row; starts_are = s.starts_are },
      );
  begins_report = λ starts t s. record { calls = _; row = begun_on s.row; starts_are = s.starts_are };
  on_page = λ starts r page s. record { calls = _; row = s.row; starts_are = s.starts_are };
  lined_anywhere = λ starts r r' answer page page' s does. record { calls = _; row = lined s.row does; starts_are = s.starts_are };
  footed_anywhere = λ starts r s' answer page page' s does. record { calls = _; row = footed s.row does; starts_are = s.starts_are };
  abandoned = λ starts r s. record { calls = _; row = abandoned s.row; starts_are = s.starts_are };
  trailed = λ starts t n d room answer memory memory' s does.
      subst (λ (xs : List (ℕ × ℕ)). Told H xs n d answer memory room memory') s.starts_are
      ((the_law H sound first new _ _ (trailed s.row does)).trails [] s.calls n d room answer memory memory' refl);
}
