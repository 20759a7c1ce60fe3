use Rattle.std.proofs.Common.{◌≡◌, ℕ, ◌+◌, ◌*◌, ◌<◌, ◌≤◌, true, Bool, sym, ap, ◌∙◌, inl, inr, arith}
use Rattle.std.proofs.lemmas.Bool.{cases_lt}
use Rattle.fact_set.specs.Sets.{has}
use Rattle.paths.specs.Tabled.{is_found, find}
use Rattle.table.specs.Leads.{kind_of, first_of, second_of}
use Rattle.table.specs.Settling.{finds_one}
use Rattle.table.specs.State.{inner}
use Rattle.table.proofs.Blocks.{cell_below}
use Rattle.table.proofs.Kept.{block_still}
use Rattle.table.proofs.Sets.{cut_still, left_yes, left_no, one_idle, still_found, find_finds}
use Rattle.table.proofs.Turns.{next_turn, skip_turns, taken_yes}
use Rattle.table.proofs.state.Core.find_each.Goals as goal

pub loop-fact-preserved : goal.loop-fact-preserved
loop-fact-preserved c =
    let s = c.args.self.now in
    let t = c.loop-fact.self in
    let u = c.find.new.self in
    let inv = c.loop-fact.invariant in
    let F = t.facts in
    let b = c.args.block in
    let x = c.args.facts in
    let by = c.args.by in
    let e = c.in-Some.fact.0 in
    let now : ℕ → Bool = λ d. is_found (b * F + d) (inner t) in
    let first = c.in-Some.ensures in
    let yes = left_yes F t.few_facts x _ _ _ _ c.loop-fact.next now inv.3 c.found_in.ensures c.difference.ensures c.from.ensures e first.in_set in
    let passed : (d : ℕ) → c.loop-fact.next ≤ d → d < e → has x d ≡ true → now d ≡ true =
    λ d m l y. left_no F t.few_facts x _ _ _ _ c.loop-fact.next now inv.3 c.found_in.ensures c.difference.ensures c.from.ensures d (first.none_before d l) m (omega arith) y in
    let k = c.find.ensures.kept in
    let fs : s.facts ≡ F = sym inv.0.kept.facts in
    let w = skip_turns (λ (F : ℕ). finds_one F x by b) s t c.loop-fact.next e inv.0 yes.2
    (λ d m l. ap (λ (f : ℕ). finds_one f x by b d (inner t)) fs ∙ one_idle F x by b d (inner t) (passed d m l)) in
    let after = taken_yes (has x e) (find (kind_of by) (first_of by) (second_of by) (b * F + e)) (inner t) (inner u) (sym yes.0) c.find.ensures.after in
    let all : (d : ℕ) → d < e + 1 → has x d ≡ true → is_found (b * F + d) (inner u) ≡ true =
    λ d l y. elim (cases_lt d c.loop-fact.next) [
      | inl m ↦ still_found t u (b * F + d) k (inv.2 d m y)
      | inr m ↦ elim (cases_lt d e) [
        | inl n ↦ still_found t u (b * F + d) k (passed d m n y)
        | inr n ↦
            (let q : d ≡ e = omega arith in
            ap (λ (j : ℕ). is_found (b * F + j) (inner u)) q ∙ ap (is_found (b * F + e)) c.find.ensures.after
            ∙ find_finds t (kind_of by) (first_of by) (second_of by) (b * F + e) (let z = cell_below t.points F b e (block_still s t b inv.0.kept c.requires.block) yes.1 in omega (arith, t.product)))
      ]
    ] in (
      next_turn (λ (F : ℕ). finds_one F x by b) s t u e w k after,
      omega (arith, yes.1, k.facts),
      λ d l y. ap (λ (f : ℕ). is_found (b * f + d) (inner u)) k.facts ∙ all d l y,
      cut_still F u.facts x _ k.facts inv.3,
    )

pub returns : goal.returns
returns c =
    let s = c.args.self.now in
    let t = c.loop-fact.self in
    let inv = c.loop-fact.invariant in
    let F = t.facts in
    let b = c.args.block in
    let x = c.args.facts in
    let by = c.args.by in
    let now : ℕ → Bool = λ d. is_found (b * F + d) (inner t) in
    let none = c.in_default.ensures in
    let rest : (d : ℕ) → c.loop-fact.next ≤ d → d < F → has x d ≡ true → now d ≡ true =
    λ d m l y. left_no F t.few_facts x _ _ _ _ c.loop-fact.next now inv.3 c.found_in.ensures c.difference.ensures c.from.ensures d (none d) m l y in
    let fs : s.facts ≡ F = sym inv.0.kept.facts in
    let w = skip_turns (λ (F : ℕ). finds_one F x by b) s t c.loop-fact.next s.facts inv.0 (omega (arith, inv.1))
    (λ d m l. ap (λ (f : ℕ). finds_one f x by b d (inner t)) fs ∙ one_idle F x by b d (inner t) (rest d m (omega arith))) in
    record {
      kept = w.kept;
      after = w.after;
      all = λ d l y. elim (cases_lt d c.loop-fact.next) [
        | inl m ↦ inv.2 d m y
        | inr m ↦ rest d m l y
      ];
    }
