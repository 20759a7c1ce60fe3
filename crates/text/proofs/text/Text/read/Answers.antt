use Rattle.std.proofs.Common.{◌≡◌, List, ℕ, None, Ok, sym, ap, ◌∙◌, subst}
use Rattle.listing.specs.Meaning.{totals}
use Rattle.listing.specs.declared.counts.Counts.{Counts}
use Rattle.text.specs.Reading.{meaning_of, refused, answered}
use Rattle.text.proofs.Refusals.{not_refused}
use Rattle.text.proofs.text.Text.read.Goals as goal

pub returns-clause-value : goal.returns-clause-value
returns-clause-value c =
    let bytes = c.args.bytes.now in
    let same = c.in_ok-text.ensures.reads.1 in
    let none : refused bytes ≡ None = subst (λ (t : List ℕ). refused t ≡ None) same (not_refused c.in_ok-text.text.delivered.bytes.now c.in_ok-text.text.accepted) in
    ap (λ (k : Counts). Ok k) (c.counts-counts.ensures ∙ ap (λ t. totals (meaning_of t)) same)
    ∙ ap (λ o. answered o (totals (meaning_of bytes))) (sym none)
