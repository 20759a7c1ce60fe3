use Rattle.std.proofs.Common.{◌≡◌, ◌+◌, length, get_or, drop, sym, ap, ◌∙◌, arith}
use Rattle.std.proofs.lemmas.List.{length-map}
use Rattle.std.proofs.lemmas.Option.{slice_get_past}
use Rattle.std.proofs.lemmas.Bool.{leb-true}
use Rattle.listing.proofs.Lists.{nth_front}
use Rattle.listing.specs.Statements.{controlled}
use Rattle.grammar.specs.Grammar.{then, statement}
use Rattle.text.specs.Lines.{lines, place}
use Rattle.text.specs.Reading.{written, flow_of}
use Rattle.text.proofs.Places.{place_lines, place_within}
use Rattle.text.proofs.Written.{none_from, written_nth, written_length}
use Rattle.text.proofs.delivered.Delivered.statement.Goals as goal

pub returns-then-n-self : goal.returns-then-n-self
returns-then-n-self c = sym (slice_get_past (written c.args.self.now.bytes.now) c.args.n.0 (omega (arith, c.args.self.now.counts)))

pub bounds-self-from : goal.bounds-self-from
bounds-self-from c =
    let t = c.args.self.now.bytes.now in
    omega (arith, c.args.self.now.counts, leb-true (length (flow_of t)) 1000 c.args.self.now.short, length-map (written t) controlled)

pub line_at-requires : goal.line_at-requires
line_at-requires c =
    let t = c.args.self.now.bytes.now in
    let n = c.args.n.0 in
    let at = c.args.self.now.placed n c.if-n-self.false in
    let size = written_length t (none_from _ c.args.self.now.whole) in
    let same : c.from-start.result ≡ place (c.args.n.0 + 1) (lines c.args.self.now.bytes.now) = c.from-start.ensures ∙ (ap (λ k. get_or c.args.self.now.starts (k + 1) 0) c.from.ensures ∙ at) in
    omega (arith, same, place_within (n + 1) t (omega (arith, c.args.self.now.counts, size)))

pub returns : goal.returns
returns c =
    let t = c.args.self.now.bytes.now in
    let n = c.args.n.0 in
    let at = c.args.self.now.placed n c.if-n-self.false in
    let same : c.from-start.result ≡ place (c.args.n.0 + 1) (lines c.args.self.now.bytes.now) = c.from-start.ensures ∙ (ap (λ k. get_or c.args.self.now.starts (k + 1) 0) c.from.ensures ∙ at) in
    let found = sym (place_lines (n + 1) t) ∙ (ap (λ p. lines (drop p t)) (sym same) ∙ c.line_at.ensures) in
    c.statement_of.ensures.value
    ∙ sym (written_nth t (none_from _ c.args.self.now.whole) n ∙ ap (λ o. then o statement) (nth_front (lines t) _ (n + 1) c.line_at.result.now found))
