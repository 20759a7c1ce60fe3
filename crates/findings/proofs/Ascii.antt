-- A report is ASCII.
use Rattle.std.proofs.Common.{◌≡◌, ℕ, zero, suc, ◌*◌, ◌^◌, ◌<◌, ◌≤◌, Bool, true, false, cond, List, [], ◌∷◌, ◌++◌, length, codes, sym, ap, subst, arith, rules}
use Rattle.std.specs.Str.{IsAscii, IsUtf8}
use Rattle.std.proofs.lemmas.Str.{IsAscii-append, IsUtf8-from_ascii}
use Rattle.std.proofs.lemmas.Fmt.{IsAscii-decimal}
use Rattle.std.proofs.lemmas.List.Concat.{flat_map-append}
use Rattle.std.specs.Fmt.{decimal}
use Rattle.listing.specs.Refusals.{refused_text}
use Rattle.page.specs.Writes.{heading}
use Rattle.records.specs.Faults.{number_of, place_of, fault_text}
use Rattle.records.specs.declared.fault.Fault.{Fault}
use Rattle.records.specs.declared.fault.Fault.TheVariants.{Memory, Counts, Range, Waiting, Unreached, Unwritten, Full}
use Rattle.paths.specs.Page.{any_found, pairs_at, pairs_below, pairs_of, line_text, lines_text, foot_text, report_text}
use Rattle.paths.specs.Tabled.{Tabled}
use Rattle.report.specs.Pairs.{pairs_before}
use Rattle.report.proofs.Numbered.{before_all, few_before, few_pairs}

nothing : IsAscii []
nothing = search rules

space : IsAscii (32 ∷ [])
space = search rules

end : IsAscii (10 ∷ [])
end = search rules

pairs_word : IsAscii (codes "pairs ")
pairs_word = search rules

cells_word : IsAscii (codes " cells ")
cells_word = search rules

line : (n d : ℕ) → n < 1000 → d < 64 → IsAscii (line_text (n, d))
line n d hn hd =
    IsAscii-append (decimal n) (32 ∷ (decimal d ++ (10 ∷ []))) (IsAscii-decimal n (omega arith))
    (IsAscii-append (32 ∷ []) (decimal d ++ (10 ∷ [])) space (IsAscii-append (decimal d) (10 ∷ []) (IsAscii-decimal d (omega arith)) end))

foot : (r c : ℕ) → r < 2 ^ 64 → c < 2 ^ 64 → IsAscii (foot_text r c)
foot r c hr hc =
    IsAscii-append (codes "pairs ") (decimal r ++ (codes " cells " ++ (decimal c ++ (10 ∷ [])))) pairs_word
    (IsAscii-append (decimal r) (codes " cells " ++ (decimal c ++ (10 ∷ []))) (IsAscii-decimal r hr)
    (IsAscii-append (codes " cells ") (decimal c ++ (10 ∷ [])) cells_word
    (IsAscii-append (decimal c) (10 ∷ []) (IsAscii-decimal c hc) end)))

one : (b : Bool) (n d : ℕ) → n < 1000 → d < 64 → IsAscii (lines_text (cond b ((n, d) ∷ []) []))
one true n d hn hd = IsAscii-append (line_text (n, d)) [] (line n d hn hd) nothing
one false n d hn hd = nothing

joined : (xs ys : List (ℕ × ℕ)) → IsAscii (lines_text xs) → IsAscii (lines_text ys) → IsAscii (lines_text (xs ++ ys))
joined xs ys a b = subst IsAscii (sym (flat_map-append line_text xs ys)) (IsAscii-append (lines_text xs) (lines_text ys) a b)

at_point : (k n : ℕ) (t : Tabled) → k ≤ 64 → n < 1000 → IsAscii (lines_text (pairs_at k n t))
at_point zero n t hk hn = nothing
at_point (suc k) n t hk hn =
    joined (pairs_at k n t) (cond (any_found t.facts n k t) ((n, k) ∷ []) []) (at_point k n t (omega arith) hn) (one (any_found t.facts n k t) n k hn (omega arith))

below : (k : ℕ) (t : Tabled) → k ≤ 1000 → t.facts ≤ 64 → IsAscii (lines_text (pairs_below k t))
below zero t hk hf = nothing
below (suc k) t hk hf = joined (pairs_below k t) (pairs_at t.facts k t) (below k t (omega arith) hf) (at_point t.facts k t hf (omega arith))

few : (t : Tabled) → t.points ≤ 1000 → t.facts ≤ 64 → length (pairs_of t) ≤ 64000
few t hn hf =
    let a = few_before (t.points * t.facts) t in
    let b = few_pairs t.points t.facts hn hf in
    let c : length (pairs_before (t.points * t.facts) t) ≡ length (pairs_of t) = ap length (before_all t) in
    omega arith

pub report_utf8 : (t : Tabled) → t.points ≤ 1000 → t.facts ≤ 64 → t.settled < 2 ^ 64 → IsUtf8 (report_text t)
report_utf8 t hn hf hc =
    let r = few t hn hf in
    IsUtf8-from_ascii (report_text t)
    (IsAscii-append (lines_text (pairs_of t)) (foot_text (length (pairs_of t)) t.settled) (below t.points t hn hf)
    (foot (length (pairs_of t)) t.settled (omega arith) hc))

problem_word : IsAscii (codes "problem ")
problem_word = search rules

refused_word : IsAscii (codes "refused ")
refused_word = search rules

at_word : IsAscii (codes " at ")
at_word = search rules

pub heading_utf8 : (k : ℕ) → k < 2 ^ 64 → IsUtf8 (heading k)
heading_utf8 k h =
    IsUtf8-from_ascii (heading k)
    (IsAscii-append (codes "problem ") (decimal k ++ (10 ∷ [])) problem_word (IsAscii-append (decimal k) (10 ∷ []) (IsAscii-decimal k h) end))

-- a refusal in a line
pub refused_utf8 : (k j : ℕ) → k < 2 ^ 64 → j < 2 ^ 64 → IsUtf8 (refused_text k j ++ (10 ∷ []))
refused_utf8 k j hk hj =
    IsUtf8-from_ascii (refused_text k j ++ (10 ∷ []))
    (IsAscii-append (refused_text k j) (10 ∷ [])
    (IsAscii-append (codes "refused ") (decimal k ++ (codes " at " ++ decimal j)) refused_word
    (IsAscii-append (decimal k) (codes " at " ++ decimal j) (IsAscii-decimal k hk) (IsAscii-append (codes " at ") (decimal j) at_word (IsAscii-decimal j hj)))) end)

pub small_number : (f : Fault) → number_of f < 2 ^ 64
small_number Memory = omega arith
small_number Counts = omega arith
small_number Range = omega arith
small_number Waiting = omega arith
small_number Unreached = omega arith
small_number Unwritten = omega arith
small_number Full = omega arith

pub fault_utf8 : (f : Fault) → IsUtf8 (fault_text f ++ (10 ∷ []))
fault_utf8 f = refused_utf8 (number_of f) (place_of f) (small_number f) (omega arith)
