use Rattle.std.proofs.Common.{◌≡◌, ℕ, ◌+◌, ◌-◌, ◌<◌, length, List, Some, Option, sym, refl, ap, ◌∙◌, subst, arith}
use Rattle.std.specs.List.{slice_get}
use Rattle.std.specs.Option.{option_map}
use Rattle.std.proofs.lemmas.List.{length-map, length-set}
use Rattle.std.proofs.lemmas.Bool.{leb-true}
use Rattle.listing.proofs.Lists.{nth_map}
use Rattle.listing.specs.declared.control.Control.{Control}
use Rattle.listing.specs.declared.numbers.Point.{Point}
use Rattle.listing.specs.declared.numbers.Proc.{Proc}
use Rattle.draft.specs.Index.{called, bounded_call, bounded_calls}
use Rattle.draft.proofs.Calls.{Threaded, few_called, threaded_none, threaded_call, threaded_quiet}
use Rattle.draft.proofs.callers.indexing.index_calls.Given as given
use Rattle.draft.proofs.callers.indexing.index_calls.Goals as goal
use Rattle.draft.proofs.callers.indexing.index_calls.Goals.{In-Some}

-- what is called at a point, by what the code found there
called_at : (cs : List Control) (n : ℕ) (control : Option Control) (callee : Option Proc) → callee ≡ called (option_map bounded_call control) → control ≡ slice_get cs n → called (slice_get (bounded_calls cs) n) ≡ callee
called_at cs n control callee e f = ap called (nth_map bounded_call cs n) ∙ sym (e ∙ ap (λ o. called (option_map bounded_call o)) f)

pub loop-n-init : goal.loop-n-init
loop-n-init g c =
    record {
      procedures = refl;
      points = refl;
      calls = threaded_none _ _ (omega (arith, length-map (g.D.Draft.flow c.args.draft.now) bounded_call));
    }

module _ (g : given.Over) (c : In-Some g) where
  one_of_sixty : c.in-Some.callee.0 < 60
  one_of_sixty = few_called c.control.result c.in-Some.callee (sym c.in-Some.ensures)

  one_of_thousand : c.loop-n.n - 1 < 1000
  one_of_thousand = omega (arith, leb-true _ _ (g.D.Draft.few c.args.draft.now), c.points-n.ensures)

pub link-requires : goal.link-requires
link-requires g c = let at = (goal.at.link-requires g c).In-Some in record { callee = one_of_sixty g at; point = one_of_thousand g at }

-- what was told from the next point on is told from n - 1 + 1 on
later : (cs : List Control) (first next : List (Option Point)) (n : ℕ) → 0 < n → Threaded cs first next n → Threaded cs first next (n - 1 + 1)
later cs first next n h t = let before : n ≡ n - 1 + 1 = omega arith in subst (λ (m : ℕ). Threaded cs first next m) before t

pub loop-n-preserved-in-Some : goal.loop-n-preserved-in-Some
loop-n-preserved-in-Some g c =
    let at = (goal.at.loop-n-preserved-in-Some g c).In-Some in
    let cs = g.D.Draft.flow c.args.draft.now in
    let inv = c.loop-n.invariant in
    let calls = later _ _ _ c.loop-n.n (omega arith) inv.calls in
    let here = called_at cs (c.loop-n.n - 1) c.control.result (Some c.in-Some.callee) c.in-Some.ensures c.control.ensures in
    record {
      procedures = ap length c.link.ensures.heads ∙ (length-set _ _ _ ∙ inv.procedures);
      points = ap length c.link.ensures.leads ∙ (length-set _ _ _ ∙ inv.points);
      calls = simp (c.link.ensures.heads, c.link.ensures.leads)
          (threaded_call _ _ _ _ calls c.in-Some.callee here (omega (arith, one_of_sixty g at, inv.procedures)) (omega (arith, one_of_thousand g at, inv.points)));
    }

pub loop-n-preserved : goal.loop-n-preserved
loop-n-preserved g c =
    let cs = g.D.Draft.flow c.args.draft.now in
    let inv = c.loop-n.invariant in
    let calls = later _ _ _ c.loop-n.n (omega arith) inv.calls in
    record {
      procedures = inv.procedures;
      points = inv.points;
      calls = threaded_quiet _ _ _ _ calls (called_at cs (c.loop-n.n - 1) c.control.result _ c.in_default.ensures c.control.ensures);
    }
