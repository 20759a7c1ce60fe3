use Rattle.std.proofs.Common.{ℕ, ◌+◌, vec_items, sym, refl, ap, ◌∙◌, subst, arith}
use Rattle.table.specs.Records.{at}
use Rattle.table.proofs.Finds.{not_found}
use Rattle.table.proofs.Leads.{leads}
use Rattle.table.proofs.Noting.{noted_sound, noted_blocks, noted_spare, noted_stays, noted_state}
use Rattle.table.proofs.Sounds.{Sound, sound, room}
use Rattle.table.proofs.state.Core.note.Goals as goal

pub enter-requires : goal.enter-requires
enter-requires c =
    let t = c.args.self.now in
    let z = not_found (vec_items t.records) t.points t.facts t.found t.head t.tail _ (sym c.requires.unfound) in
    let r = room (sound t) _ (c.cell-cell.ensures.within c.requires.fact) (ap (λ (j : ℕ). (at (vec_items t.records) j).rank) c.cell-cell.ensures.value ∙ z) in
    (omega (arith, c.cell-cell.ensures.within c.requires.fact, t.held, t.records.ok.0), omega (arith, t.pushed, t.held, t.records.ok.0))

pub invariant_of-self : goal.invariant_of-self
invariant_of-self c =
    let t = c.args.self.now in
    let by = c.args.by in
    let z = not_found (vec_items t.records) t.points t.facts t.found t.head t.tail _ (sym c.requires.unfound) in
    let s₀ = noted_sound t by c.args.block c.args.fact.0 _ _ _ _ _ c.cell-cell.ensures.value c.requires.rank c.requires.block c.requires.fact z (leads t by c.requires.led)
    c.enter.ensures c.mark.ensures.marked c.mark.ensures.found in
    let s = subst (λ (r : ℕ). Sound (vec_items c.mark.new.records) t.points t.facts t.size r t.head (t.tail + 1)) (sym c.requires.rank) s₀ in
    record {
      few_points = s.few_points;
      few_facts = s.few_facts;
      product = s.product;
      some = s.some;
      held = s.held;
      counted = s.counted;
      ranks = s.ranks;
      once = s.once;
      firsts = s.firsts;
      seconds = s.seconds;
      first_found = s.first_found;
      first_before = s.first_before;
      second_found = s.second_found;
      second_before = s.second_before;
      blocks = noted_blocks t by c.args.block c.args.fact.0 _ _ _ _ _ c.cell-cell.ensures.value c.requires.rank c.requires.block c.requires.fact z (leads t by c.requires.led)
          c.enter.ensures c.mark.ensures.marked c.mark.ensures.found;
      ordered = s.ordered;
      pushed = s.pushed;
      slots = s.slots;
      waits = s.waits;
    }

pub returns : goal.returns
returns c =
    let t = c.args.self.now in
    let by = c.args.by in
    let z = not_found (vec_items t.records) t.points t.facts t.found t.head t.tail _ (sym c.requires.unfound) in
    record {
      kept = record {
        points = refl;
        facts = refl;
        size = refl;
        settled = omega (arith, c.requires.rank, t.ordered, t.pushed);
        spare = noted_spare t by c.args.block c.args.fact.0 _ _ _ _ _ c.cell-cell.ensures.value c.requires.rank c.requires.block c.requires.fact z (leads t by c.requires.led)
            c.enter.ensures c.mark.ensures.marked c.mark.ensures.found;
        stays = λ x f. (let e = noted_stays t by c.args.block c.args.fact.0 _ _ _ _ _ c.cell-cell.ensures.value c.requires.rank c.requires.block c.requires.fact z (leads t by c.requires.led)
            c.enter.ensures c.mark.ensures.marked c.mark.ensures.found x f in omega arith);
      };
      after = noted_state t by c.args.block c.args.fact.0 _ _ _ _ _ c.cell-cell.ensures.value c.requires.rank c.requires.block c.requires.fact z (leads t by c.requires.led)
          c.enter.ensures c.mark.ensures.marked c.mark.ensures.found;
    }
