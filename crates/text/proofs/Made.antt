-- The facts that a delivered text and a text that was read hold.
use Rattle.std.proofs.Common.{◌≡◌, ℕ, true, not, leb, List, length, is_some, None, ap, ◌∙◌}
use Rattle.std.specs.Option.{option_map}
use Rattle.listing.specs.Lawful.{cells_in_range, points_in_range}
use Rattle.listing.specs.Procedures.{rets}
use Rattle.draft.specs.Index.{bounded_calls}
use Rattle.draft.specs.Rules.{crowded, missing, breach}
use Rattle.text.specs.Reading.{counted, written, flow_of, owned_of, sized, outsized, misformed, unranged, miscounted, on_line, accepted}
use Rattle.text.specs.Survey.{Surveyed}
use Rattle.std.proofs.lemmas.Bool.{leb-true}
use Rattle.text.proofs.Refusals.{past_four, passed, unless_yes}
use Rattle.text.proofs.Lawful.{few_points}
use Rattle.text.proofs.Accepted.{answered_yes}
use Rattle.draft.proofs.Calls.{bounded_same}

-- a text that passes the tests of the first four questions
pub surveyed : (t : List ℕ) → sized t ≡ true → misformed t ≡ None → cells_in_range (counted t).globals (counted t).locals ≡ true → points_in_range (length (written t)) ≡ true → Surveyed t
unfolding outsized unranged miscounted
surveyed t size form ranges count = record { sized = unless_yes _ 0 size; whole = form; ranged = unless_yes _ 1 ranges; short = unless_yes _ 0 count }

module _ (t : List ℕ) (f : Surveyed t) where
  pub short : leb (length (flow_of t)) 1000 ≡ true
  short = few_points t f.short

  module _ (b : breach (flow_of t) (owned_of t) ≡ None) where
    -- a survey and an examination without a no accept a text
    pub all_yes : accepted t ≡ true
    all_yes = ap (λ o. not (is_some o)) (past_four t f.sized f.whole f.ranged f.short ∙ ap (option_map on_line) b)

    -- and every call of it counts
    pub calls_count : bounded_calls (flow_of t) ≡ flow_of t
    unfolding crowded missing
    calls_count = let y = answered_yes t all_yes in bounded_same (rets (flow_of t)) 0 (flow_of t) (leb-true _ _ (passed _ _ y.procedures)) y.callees
