-- Whoever unfolds `everything` unfolds every definition, so that the examples compute.
use Rattle.definitions.specs.Basics.{bind, or_else, flatten, flat_map, filter_map}
use Rattle.definitions.specs.Limits.{limits, within}
use Rattle.definitions.specs.Syntax.{patient_at, patients_of}
use Rattle.definitions.specs.Layout.{number, hyphen_or_number, items, region_line, patient_line, table_line, end_line, region_lines, layout}
use Rattle.definitions.specs.Spelling.{digits_within, spell_patient, spell_table, spell_body, spell, well_formed}
use Rattle.definitions.specs.Plans.{plans_for, place, stride, entry_for, cost_over, fixing, constraints, total, list_of}
use Rattle.definitions.specs.Questions.{short_enough, laid_out, counts_true, sum_true, counts_within, patients_within, parents_smaller, members_right}
use Rattle.definitions.specs.Questions.{entry_counts_right, entries_within, following, ancestors, members_related, clinic_present, room_for_rows}
use Rattle.definitions.specs.Questions.{areas_long_enough, plan_allowed, plan_fits, region_of, asked_by_check, check_of, asked_by_list, asked_by_sheet, asked_by_price}
use Rattle.definitions.specs.Sheets.{part, own_tables, own_cost, own_row, sheet_of}
use Rattle.definitions.specs.Isolation.{is_among, tables_among, times_in, joins}
use Rattle.definitions.specs.Outcomes.{list_found, sheet_found, outcome_of, list_outcome, sheet_outcome, price_found, price_outcome}
use Rattle.definitions.specs.Writer.{region_from, as_held, written_file, room_for_file, asked_by_write, write_outcome_of, write_outcome}
use Rattle.definitions.specs.Lookup.{typed_right, typed_members, is_over, line_over, asked_by_line, line_found, line_outcome}
use Rattle.definitions.specs.Joining.{joined_region, joined_file, clinics_apart, join_within, asked_by_join, refused_file, join_outcome, first_pairs}
use Rattle.definitions.specs.Parents.{earlier_neighbours, parents_from, with_parents, parents_file, asked_by_parents, parents_outcome}
use Rattle.definitions.specs.Boundary.{result_after, call_of, list_call, sheet_call, price_call_of, price_call}
use Rattle.definitions.specs.Boundary.{lent_patients, lent_tables, lent_region, lent_whole, asked_by_lent_write, write_call_of, write_call, line_call_of, line_call, join_call, parents_call, room_for_region, asked_by_read, read_call_of, read_call}
use Rattle.definitions.specs.Output.{printed_row, printed_rows, clinics_present, printed}

-- The file and its spelling; plans and questions; sheets, what the entries give and what is printed; what the requests add.
unfoldable pub readers : Unit {0}
unfolding bind or_else flatten flat_map filter_map limits within patient_at patients_of number hyphen_or_number items region_line patient_line table_line end_line region_lines layout digits_within spell_patient spell_table spell_body spell well_formed
readers = tt

unfoldable pub questions : Unit {0}
unfolding plans_for place stride entry_for cost_over fixing constraints total list_of short_enough laid_out counts_true sum_true counts_within patients_within parents_smaller members_right entry_counts_right entries_within following ancestors members_related clinic_present room_for_rows areas_long_enough plan_allowed plan_fits region_of asked_by_check check_of asked_by_list asked_by_sheet asked_by_price
questions = tt

unfoldable pub answers : Unit {0}
unfolding part own_tables own_cost own_row sheet_of is_among tables_among times_in joins list_found sheet_found outcome_of list_outcome sheet_outcome price_found price_outcome result_after call_of list_call sheet_call price_call_of price_call printed_row printed_rows clinics_present printed
answers = tt

unfoldable pub requested : Unit {0}
unfolding region_from as_held written_file room_for_file asked_by_write write_outcome_of write_outcome lent_patients lent_tables lent_region lent_whole asked_by_lent_write write_call_of write_call typed_right typed_members is_over line_over asked_by_line line_found line_outcome line_call_of line_call joined_region joined_file clinics_apart join_within asked_by_join refused_file join_outcome first_pairs join_call earlier_neighbours parents_from with_parents parents_file asked_by_parents parents_outcome parents_call room_for_region asked_by_read read_call_of read_call
requested = tt

unfoldable pub everything : Unit {0}
unfolding readers questions answers requested
everything = tt
