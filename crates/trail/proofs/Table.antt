-- What a table keeps of its records: each found cell was led to by cells found before it, and the numbers of its cells fit a word.
use Rattle.std.proofs.Common.{◌≡◌, ℕ, ◌<◌, true, Some, None, Option, vec_items, refl, sym, ap, subst, arith}
use Rattle.moves.specs.declared.moves.Kind.{Kind}
use Rattle.moves.specs.declared.moves.Kind.TheVariants as kind
use Rattle.paths.specs.Memory.{Rec}
use Rattle.paths.specs.Tabled.{Tabled, record_at}
use Rattle.paths.specs.Words.{kind_of}
use Rattle.table.specs.Records.{at, leans_first, leans_second}
use Rattle.table.specs.State.{code_in, rec, inner}
use Rattle.table.specs.declared.state.Core.{Core}
use Rattle.table.proofs.Writing.{rec_at}
use Rattle.trail.proofs.Led.{Before, LedBy, Led}

led_kind : (t : Tabled) (r : ℕ) (o : Option Kind) (u v : ℕ) → (leans_first o ≡ true → Before t r u) → (leans_second o ≡ true → Before t r v)
    → LedBy t r (kind_of (code_in o)) u v
led_kind t r None u v f g = tt
led_kind t r (Some kind.Start) u v f g = tt
led_kind t r (Some kind.Step) u v f g = f refl
led_kind t r (Some kind.Past) u v f g = f refl
led_kind t r (Some kind.Call) u v f g = f refl
led_kind t r (Some kind.Return) u v f g = (f refl, g refl)

module _ (t : Core) where
  record_is : (c : ℕ) → record_at (inner t) c ≡ rec (at (vec_items t.records) c)
  record_is c = rec_at (vec_items t.records) c

  rank_is : (c : ℕ) → (record_at (inner t) c).rank ≡ (at (vec_items t.records) c).rank
  rank_is c = ap (λ (r : Rec). r.rank) (record_is c)

  before : (r u : ℕ) → u < t.size → 0 < (at (vec_items t.records) u).rank → (at (vec_items t.records) u).rank < r → Before (inner t) r u
  before r u within found lower =
      let e = rank_is u in
      let p = t.product in
      record { found = record { within = omega arith; ranked = omega arith }; lower = omega arith }

  pub led : Led (inner t)
  led = record {
    by = λ c f.
        let within = f.within in
        let p = t.product in
        let in_size : c < t.size = omega arith in
        let r = at (vec_items t.records) c in
        subst (λ (x : Rec). LedBy (inner t) x.rank (kind_of x.kind) x.first x.second) (sym (record_is c))
        (led_kind (inner t) r.rank r.kind r.first r.second
        (λ leans. before r.rank r.first (t.firsts c in_size) (t.first_found c in_size leans) (t.first_before c in_size leans))
        (λ leans. before r.rank r.second (t.seconds c in_size) (t.second_found c in_size leans) (t.second_before c in_size leans)));
  }
