-- The cases, by computing; what paths reach, by the theorem of rows.
use Rattle.std.proofs.Common.{refl}
use Rattle.std.specs.Fmt.{digits}
use Rattle.draft.specs.Rules.{unended, crowded, foreign, astray, missing}
use Rattle.text.specs.Reading.{counted, written, outsized, misformed, unranged, miscounted}
use Rattle.paths.specs.Page.{pairs_of}
use Rattle.flow.specs.declared.choice.Choice.TheVariants.{Unset, Raw}
use Rattle.cases.specs.Worked.{listing_a, listing_b, table}
use Rattle.cases.proofs.Exact.{has_of, has_in}
use Rattle.cases.proofs.Reached.{exact_a, exact_b, exact_c, exact_raw_c}
use Rattle.cases.proofs.worked.Goals as goal

pub returns : goal.returns
unfolding outsized misformed counted written unranged miscounted unended crowded foreign astray missing digits
returns c = record {
  one_local = refl;
  no_local = refl;
  no_byte = refl;
  no_last_lf = refl;
  jump_inside = refl;
  jump_outside = refl;
  means_a = refl;
  means_b = refl;
  means_c = refl;
  pairs_a = refl;
  cells_a = refl;
  none_waits_a = refl;
  newest_pairs_a = refl;
  newest_cells_a = refl;
  machine_pairs_a = refl;
  machine_cells_a = refl;
  exact_a = exact_a;
  not_past_a = λ r. has_of (2, 1) (pairs_of (table Unset listing_a)) ((exact_a 2 1).1 r);
  pairs_b = refl;
  cells_b = refl;
  found_b = refl;
  machine_pairs_b = refl;
  machine_cells_b = refl;
  machine_found_b = refl;
  machine_trail_b = refl;
  none_waits_b = refl;
  exact_b = exact_b;
  reaches_b = (exact_b 3 1).0 (has_in (3, 1) (pairs_of (table Raw listing_b)) tt);
  not_returned_b = λ r. has_of (4, 2) (pairs_of (table Raw listing_b)) ((exact_b 4 2).1 r);
  trail_b = refl;
  four_words_b = refl;
  no_calls_b = refl;
  unreached_b = refl;
  no_point_b = refl;
  no_fact_b = refl;
  passes_b = refl;
  strays_b = refl;
  records_c = refl;
  few_records_c = refl;
  none_sown_c = refl;
  waits_c = refl;
  cells_c = refl;
  none_waits_c = refl;
  report_c = refl;
  line_c = refl;
  short_page_c = refl;
  early_foot_c = refl;
  exact_c = exact_c;
  raw_c = refl;
  exact_raw_c = exact_raw_c;
  sown_again_c = refl;
  sown_twice_c = refl;
  no_procedure_c = refl;
  no_fact_c = refl;
  others_c = refl;
}
