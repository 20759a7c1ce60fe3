-- The foot of a report.
use Rattle.std.proofs.Common.{◌≡◌, ℕ, List, length, Result, sym, subst, ◌==◌}
use Rattle.std.proofs.lemmas.Bool.{eq-eqb, cond-true}
use Rattle.paths.specs.Does.{Answer, State, Turn, no, Report, foot_turn, Foots}
use Rattle.paths.specs.Page.{pairs_of, foot_text}
use Rattle.paths.proofs.Using.{usage}
use Rattle.records.specs.declared.fault.Fault.{Fault}
use Rattle.report.specs.Told.{Writing, Puts, Feet, KeepsLaw, put_turn}

-- where each pair has its line, the text of the foot is written
pub feet : (r : Report) (page page' : List ℕ) (settled : ℕ) (o : Result ℕ Fault) → r.lines ≡ length (pairs_of r.table) → settled ≡ r.table.settled
    → Puts (foot_text r.lines settled) r.place page o page' → Feet r page o page'
feet r page page' settled o all same p =
    let turn : foot_turn r page ≡ put_turn (foot_text r.lines r.table.settled) r.place page =
    cond-true {A = Turn} (r.lines == length (pairs_of r.table)) (put_turn (foot_text r.lines r.table.settled) r.place page) (no 16) (eq-eqb r.lines (length (pairs_of r.table)) all) in
    subst (λ (x : Turn). Writing x (foot_text r.lines r.table.settled) r.place page o page') (sym turn)
    (subst (λ (n : ℕ). Puts (foot_text r.lines n) r.place page o page') same p)

-- a foot that is given keeps the law
pub keeps : (r : Report) (page page' : List ℕ) (answer : Answer) (after : State) → Foots r page answer page' after → KeepsLaw r page answer page' after
keeps r page page' answer after f = record {
  law = λ end e H sound first newly starts on.
      (usage H sound first newly).footed starts r after end page page' on (subst (λ (x : Answer). Foots r page x page' after) e f);
}
