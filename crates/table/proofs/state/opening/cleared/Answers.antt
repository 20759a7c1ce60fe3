use Rattle.std.proofs.Common.{◌≡◌, ℕ, ◌*◌, ◌≤◌, List, ◌++◌, length, drop, replicate, vec_items, sym, ap, ◌∙◌, subst, arith}
use Rattle.std.proofs.lemmas.List.{with_items_is}
use Rattle.std.specs.Vec.{with_items}
use Rattle.listing.proofs.Parts.{parts}
use Rattle.listing.specs.Meaning.{size}
use Rattle.paths.proofs.Callees.{sound}
use Rattle.paths.proofs.Lawly.{exact_rows, the_law}
use Rattle.paths.proofs.Using.{usage}
use Rattle.paths.specs.Does.{Handed}
use Rattle.paths.specs.Handing.{handed_by}
use Rattle.records.specs.Blank.{blank}
use Rattle.records.specs.declared.record.Record.{Record}
use Rattle.table.proofs.Opens.{opened_sound, opened_blocks, some_cells, size_of, new_state, new_memory, newly}
use Rattle.table.proofs.Blocks.{Blocks}
use Rattle.table.proofs.Sounds.{Sound}
use Rattle.table.specs.State.{state_of}
use Rattle.table.specs.Told.{Memory}
use Rattle.table.proofs.state.opening.cleared.Goals as goal

-- the memory with its front cleared
front_cleared : (v : Memory) (k : ℕ) (old ys : List Record) → old ≡ vec_items v → length ys ≡ length old → ys ≡ replicate k blank ++ drop k old
    → vec_items (with_items v ys) ≡ replicate k blank ++ drop k (vec_items v)
front_cleared v k old ys e len made =
    with_items_is v ys (len ∙ ap length e ∙ sym v.ok.0) ∙ made ∙ ap (λ (xs : List Record). replicate k blank ++ drop k xs) e

pub invariant_of-result : goal.invariant_of-result
invariant_of-result g c =
    let h : Handed = handed_by g.P.Program g.Q.Problem c.args.on.now in
    let m = g.P.Program.meaning c.args.on.now.program.now in
    let lawful = parts m (g.P.Program.lawful c.args.on.now.program.now) in
    let few = g.met.Q.Problem.few c.args.on.now.problem.now in
    let n : ℕ = c.counts.result.points in
    let f : ℕ = c.facts.result in
    let k : ℕ = c.args.size in
    let points : n ≡ size m = ap (λ x. x.points) c.counts.ensures in
    let cells : k ≡ n * f * f = size_of h n f k points c.facts.ensures c.requires.size in
    let rs = vec_items c.args.memory in
    let held : k ≤ length rs = omega (arith, c.requires.room, c.args.memory.ok.0) in
    let some = some_cells n f (omega (arith, lawful.some_points)) (omega (arith, few.some, c.facts.ensures)) in
    let made = front_cleared c.args.memory k c.as_mut_slice.result.now c.clear.new.records c.as_mut_slice.ensures.value c.clear.auto.records c.clear.ensures in
    let P : List Record → Type 0 = λ ys. Sound ys n f k 0 0 0 in
    let s = subst P (sym made) (opened_sound rs k held n f (omega (arith, lawful.few_points)) (omega (arith, few.most, c.facts.ensures)) cells (omega arith)) in
    record {
      few_points = s.few_points;
      few_facts = s.few_facts;
      product = s.product;
      some = s.some;
      held = s.held;
      counted = s.counted;
      ranks = s.ranks;
      once = s.once;
      firsts = s.firsts;
      seconds = s.seconds;
      first_found = s.first_found;
      first_before = s.first_before;
      second_found = s.second_found;
      second_before = s.second_before;
      blocks = subst (λ (ys : List Record). Blocks ys n f) (sym made) (opened_blocks rs k held n f cells s.some);
      ordered = s.ordered;
      pushed = s.pushed;
      slots = s.slots;
      waits = s.waits;
    }

pub returns : goal.returns
returns g c =
    let h : Handed = handed_by g.P.Program g.Q.Problem c.args.on.now in
    let q = c.args.on.now.problem.now in
    let m = g.P.Program.meaning c.args.on.now.program.now in
    let n = c.counts.result.points in
    let f = c.facts.result in
    let k : ℕ = c.args.size in
    let en : n ≡ size m = ap (λ x. x.points) c.counts.ensures in
    let ef = c.facts.ensures in
    let rs = vec_items c.args.memory in
    let held : k ≤ length rs = omega (arith, c.requires.room, c.args.memory.ok.0) in
    let new : List Record = vec_items (with_items c.args.memory c.clear.new.records) in
    let made = front_cleared c.args.memory k c.as_mut_slice.result.now c.clear.new.records c.as_mut_slice.ensures.value c.clear.auto.records c.clear.ensures in
    let fine = sound m (g.P.Program.lawful c.args.on.now.program.now) (g.Q.Problem.relation q) (g.Q.Problem.count q) (g.met.Q.Problem.within q) (g.met.Q.Problem.few q) in
    let first = state_of new n f 0 0 0 in
    let made_newly = newly h n f k en ef c.requires.size rs held new made in
    record {
      state_is = new_state h n f k en ef c.requires.size rs held new made;
      holds = new_memory h n f k en ef c.requires.size rs held new made;
      law = the_law h fine first made_newly;
      usage = usage h fine first made_newly;
      exact = exact_rows h fine first made_newly;
    }
