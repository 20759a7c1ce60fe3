-- The tables of three listings list what call-matched paths reach.
use Rattle.std.proofs.Common.{refl, ltb→lt}
use Rattle.text.specs.Reading.{counted, written, meaning_of}
use Rattle.flow.specs.Choices.{rule_of}
use Rattle.flow.specs.declared.choice.Choice.TheVariants.{Unset, Raw}
use Rattle.flow.specs.Guarded.{guarded_within}
use Rattle.paths.specs.declared.worklist.End.TheVariants.{Oldest}
use Rattle.paths.specs.Rows.{newly_opened, sown, worked, closed}
use Rattle.cases.specs.Worked.{listing_a, listing_b, listing_c, ListsReached}
use Rattle.cases.proofs.Exact.{exact_by}

pub exact_b : ListsReached Raw listing_b
unfolding counted written
exact_b = exact_by (meaning_of listing_b) refl 3 (rule_of Raw 0 2) (guarded_within _ _) _ _
    (closed (worked 100 Oldest (sown 0 0 newly_opened (ltb→lt 0 _ tt) (ltb→lt 0 _ tt))) refl) _ refl

pub exact_c : ListsReached Unset listing_c
unfolding counted written
exact_c = exact_by (meaning_of listing_c) refl 3 (rule_of Unset 1 1) (guarded_within _ _) _ _
    (closed (worked 100 Oldest (sown 0 2 (sown 0 1 (sown 0 0 newly_opened
    (ltb→lt 0 _ tt) (ltb→lt 0 _ tt)) (ltb→lt 0 _ tt) (ltb→lt 1 _ tt)) (ltb→lt 0 _ tt) (ltb→lt 2 _ tt))) refl) _ refl

pub exact_raw_c : ListsReached Raw listing_c
unfolding counted written
exact_raw_c = exact_by (meaning_of listing_c) refl 3 (rule_of Raw 1 1) (guarded_within _ _) _ _
    (closed (worked 100 Oldest (sown 0 0 newly_opened (ltb→lt 0 _ tt) (ltb→lt 0 _ tt))) refl) _ refl

pub exact_a : ListsReached Unset listing_a
unfolding counted written
exact_a = exact_by (meaning_of listing_a) refl 4 (rule_of Unset 1 2) (guarded_within _ _) _ _
    (closed (worked 100 Oldest (sown 0 3 (sown 0 2 (sown 0 1 (sown 0 0 newly_opened
    (ltb→lt 0 _ tt) (ltb→lt 0 _ tt)) (ltb→lt 0 _ tt) (ltb→lt 1 _ tt)) (ltb→lt 0 _ tt) (ltb→lt 2 _ tt)) (ltb→lt 0 _ tt) (ltb→lt 3 _ tt))) refl) _ refl
