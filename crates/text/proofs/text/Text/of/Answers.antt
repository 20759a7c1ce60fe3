use Rattle.std.proofs.Common.{◌≡◌, None, Some, sym, subst, rules}
use Rattle.std.proofs.lemmas.Result.{err_from_is_err_and}
use Rattle.draft.specs.Index.{Describes, Threads}
use Rattle.draft.proofs.Verdicts.{mapped_ok}
use Rattle.text.specs.Reading.{refused}
use Rattle.text.proofs.Accepted.{answered_yes}
use Rattle.text.proofs.Lawful.{lawful, meant_flow}
use Rattle.text.proofs.Made.{all_yes, calls_count}
use Rattle.text.proofs.Law.{as_found}
use Rattle.text.proofs.text.Text.of.Goals as goal

pub invariant_of-result : goal.invariant_of-result
invariant_of-result c =
    let t = c.in_ok-delivered.delivered.bytes.now in
    let f = c.in_ok-delivered.ensures.1 in
    let found = mapped_ok _ c.examine.result c.in_ok-procedures.procedures _ _ c.in_ok-procedures.ensures.cases c.examine.ensures in
    let all = all_yes t f found.1 in
    let meant = sym (meant_flow t (answered_yes t all)) in
    record {
      accepted = all;
      lawful = lawful t all;
      described = subst (Describes c.in_ok-procedures.procedures) meant found.0;
      threaded = subst (Threads c.index_calls-callers.result) meant (subst (Threads c.index_calls-callers.result) (calls_count t f found.1) c.index_calls-callers.ensures);
    }

pub returns-in_err-delivered-clause-law : goal.returns-in_err-delivered-clause-law
returns-in_err-delivered-clause-law c =
    let p = err_from_is_err_and c.from_residual.result c.from_residual.ensures.1 in
    rw (p.1, p.2) (as_found c.args.bytes.now _ c.in_err-delivered.ensures)

pub returns-in_err-procedures-clause-law : goal.returns-in_err-procedures-clause-law
returns-in_err-procedures-clause-law c =
    let p = err_from_is_err_and c.from_residual-in_err-procedures.result c.from_residual-in_err-procedures.ensures.1 in
    let found : refused c.args.bytes.now ≡ Some c.in_err-procedures.field-0.0 = search rules in
    rw (p.1, p.2) (as_found c.args.bytes.now _ found)

pub returns-clause-law : goal.returns-clause-law
returns-clause-law c = let found : refused c.args.bytes.now ≡ None = search rules in as_found c.args.bytes.now _ found
