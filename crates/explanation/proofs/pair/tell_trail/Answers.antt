use Rattle.std.proofs.Common.{◌≡◌, ℕ, List, length, take, string_bytes, ap, ◌∙◌, arith}
use Rattle.std.proofs.lemmas.List.{take_at, length-replicate}
use Rattle.std.proofs.lemmas.Result.{IfOk-weaker}
use Rattle.move_text.specs.Lines.{facts_text}
use Rattle.paths.specs.Does.{Handed, trail_turn}
use Rattle.paths.specs.Handing.{handed_by}
use Rattle.paths.specs.Tabled.{Tabled}
use Rattle.records.specs.Blank.{blank}
use Rattle.records.specs.Faults.{number_of}
use Rattle.records.specs.declared.record.Record.{Record}
use Rattle.table.specs.State.{state}
use Rattle.explanation.specs.Explained.{room, memory_of, turn_text, accepted_of, explained, Explains}
use Rattle.explanation.specs.Lines.{path_text, moves_of}
use Rattle.explanation.proofs.Telling.{told_given, told_refused, path_told, no_told}
use Rattle.explanation.proofs.pair.tell_trail.Goals as goal

pub returns-in-Ok : goal.returns-in-Ok
returns-in-Ok g c =
    let m = g.P.Program.meaning c.args.on.now.program.now in
    let facts = facts_text g.Q.Item.Worded.text (g.Q.Problem.stands c.args.on.now.problem.now) in
    let h : Handed = handed_by g.P.Program g.Q.Problem c.args.on.now in
    let starts = g.Q.Problem.starts c.args.on.now.problem.now in
    let t = state c.args.table.now in
    let n = c.args.pair.point.0 in
    let d = c.args.pair.fact.0 in
    let first : c.as_mut_slice.result.now ≡ memory_of room = c.as_mut_slice.ensures.value ∙ c.in_ok-words.ensures in
    let many : length c.as_mut_slice-2.result.now ≡ room = ap (λ (rs : List Record). length rs) c.as_mut_slice-2.ensures.value ∙ ap (λ (rs : List Record). length rs) c.in_ok-calls.ensures ∙ length-replicate room blank in
    let held : c.as_slice.result.now ≡ take c.in-Ok.count c.trail.new.words =
    c.as_slice.ensures.value ∙ c.truncate.ensures.items
    ∙ ap (λ (ws : List ℕ). take c.in-Ok.count ws) (take_at c.trail.new.words _ c.in_ok-words.words.len (omega arith)) in
    record {
      text = IfOk-weaker c.trail_lines.result _ (λ s. string_bytes s ≡ explained h starts m facts n d)
          (λ s e. e ∙ ap (λ (ws : List ℕ). path_text m facts (moves_of ws)) held
          ∙ told_given m facts t n d (length c.as_mut_slice-2.result.now) c.in-Ok.count c.as_mut_slice.result.now c.trail.new.words first many c.in-Ok.ensures.trails
          ∙ ap (λ (u : Tabled). turn_text m facts (trail_turn u n d (memory_of room) room)) c.requires.state_is)
          c.trail_lines.ensures;
      law = IfOk-weaker c.trail_lines.result _ (λ s. Explains h (accepted_of h starts) m facts n d (string_bytes s))
          (λ s e. path_told m facts t n d (length c.as_mut_slice-2.result.now) h (accepted_of h starts) c.requires.led c.in-Ok.count
          c.as_mut_slice.result.now c.trail.new.words (string_bytes s) first many c.in-Ok.ensures.trails
          (e ∙ ap (λ (ws : List ℕ). path_text m facts (moves_of ws)) held))
          c.trail_lines.ensures;
    }

pub returns : goal.returns
returns g c =
    let m = g.P.Program.meaning c.args.on.now.program.now in
    let facts = facts_text g.Q.Item.Worded.text (g.Q.Problem.stands c.args.on.now.problem.now) in
    let h : Handed = handed_by g.P.Program g.Q.Problem c.args.on.now in
    let starts = g.Q.Problem.starts c.args.on.now.problem.now in
    let t = state c.args.table.now in
    let n = c.args.pair.point.0 in
    let d = c.args.pair.fact.0 in
    let q = number_of c.in-Err.fault in
    let first : c.as_mut_slice.result.now ≡ memory_of room = c.as_mut_slice.ensures.value ∙ c.in_ok-words.ensures in
    let many : length c.as_mut_slice-2.result.now ≡ room = ap (λ (rs : List Record). length rs) c.as_mut_slice-2.ensures.value ∙ ap (λ (rs : List Record). length rs) c.in_ok-calls.ensures ∙ length-replicate room blank in
    record {
      text = IfOk-weaker c.refusal_line.result _ (λ s. string_bytes s ≡ explained h starts m facts n d)
          (λ s e. e ∙ told_refused m facts t n d (length c.as_mut_slice-2.result.now) q c.as_mut_slice.result.now c.trail.new.words first many c.in-Err.ensures.trails
          ∙ ap (λ (u : Tabled). turn_text m facts (trail_turn u n d (memory_of room) room)) c.requires.state_is)
          c.refusal_line.ensures;
      law = IfOk-weaker c.refusal_line.result _ (λ s. Explains h (accepted_of h starts) m facts n d (string_bytes s))
          (λ s e. no_told m facts t n d (length c.as_mut_slice-2.result.now) h (accepted_of h starts) c.requires.led q
          c.as_mut_slice.result.now c.trail.new.words (string_bytes s) first many c.in-Err.ensures.trails e)
          c.refusal_line.ensures;
    }
