-- "Starred cases are proved": each case of the table comes out of the definitions as the paper says.
-- Assumes nothing.
use mathlib.Core.Path.{◌≡◌, refl}
use mathlib.Core.List.{map}
use Rattle.words.specs.BigEndian.{number_from, number, number_at, bytes}
use Rattle.words.specs.Parts.{put}
use Rattle.words.specs.Runs.{runs}
use Rattle.words.specs.Xor.{xors}
use Rattle.guard.specs.Guard.{guard, divide, take_off, terms, terms_of}
use Rattle.segment.specs.Segment.{is_segment, intervals_of, size_of, stored_of, length_of}
use Rattle.segment.specs.Rules.{description_rule, length_rule, segment_rules}
use Rattle.segment.specs.Places.{range_rule, place_rule, offset_of, span_of, blocks_from}
use Rattle.command.specs.Compares.{compares}
use Rattle.command.specs.Sixteen.{sixteen}
use Rattle.decoding.specs.Commands.{recognise, fields, decode_as, decode}
use Rattle.field.specs.Field.{stored_guard, stored_application, stored_reference, field_bytes, data_of, field_of}
use Rattle.interval.specs.Interval.{escapes, any_escapes, guard_wrong, application_wrong, reference_wrong, judge_pieces, judge_interval}
use Rattle.judge.specs.FirstOf.{first_of}
use Rattle.judge.specs.Judge.{judge_intervals, judge_block, judge_blocks}
use Rattle.blocks.specs.Blocks.{user_data}
use Rattle.comparison.specs.Comparison.{same, compare_blocks}
use Rattle.insertion.specs.Insertion.{with_field, stored_block, stored_blocks}
use Rattle.refusal.specs.Refusal.{long_rule, other_rule, plain_rule, type_rules, code_rule, check_rule, moved_of, size_rule, buffer_of, buffer_rule, refusal}
use Rattle.admission.specs.Admission.{admitted}
use Rattle.sides.specs.Sides.{checked_on}
use Rattle.rules.specs.Rules.{columns_of, application_known, reference_known, first_tag, rules_of, start_of}
use Rattle.marks.specs.Inserted.{inserted_application, inserted_reference, marks_of}
use Rattle.transfer.specs.Transfer.{blocks_of, judged_on, judged, whole, handed, received, compared, verdict}
use Rattle.execute.specs.Execute.{overwritten, moved, performed, executed}
use Rattle.scrub.specs.Scrub.{faulty_at, faults_from, first_from, covered_of, scrub_rules, scrubbed}
use Rattle.parity.specs.Parity.{xor_parts, parity_of}
use Rattle.stripe.specs.Stripe.{stripe_rules, in_range, made}
use Rattle.cases.specs.Cases.{result, expected, vectors, up, down, parity_case, on_segments, each_code, comparing, scrubbing, cases}

pub starred : map result cases ≡ map expected cases
unfolding number_from number number_at bytes put runs xors guard divide take_off terms terms_of vectors up down is_segment intervals_of size_of stored_of length_of description_rule length_rule segment_rules offset_of span_of blocks_from recognise fields decode_as decode first_of stored_guard stored_application stored_reference escapes data_of field_of any_escapes guard_wrong application_wrong reference_wrong judge_pieces judge_interval judge_intervals judge_block judge_blocks field_bytes with_field stored_block stored_blocks long_rule other_rule plain_rule type_rules code_rule check_rule range_rule moved_of size_rule buffer_of buffer_rule refusal admitted columns_of application_known reference_known first_tag rules_of start_of inserted_application inserted_reference marks_of checked_on blocks_of whole judged_on judged handed received overwritten moved performed executed compares user_data same compare_blocks compared verdict xor_parts parity_of stripe_rules in_range made parity_case on_segments comparing sixteen place_rule faulty_at faults_from first_from covered_of scrub_rules scrubbed scrubbing cases
starred = refl

-- the cases of each protect code
pub each_code_lem : map result each_code ≡ map expected each_code
unfolding number_from number number_at bytes put runs xors guard divide take_off terms terms_of vectors up down is_segment intervals_of size_of stored_of length_of description_rule length_rule segment_rules offset_of span_of blocks_from recognise fields decode_as decode first_of stored_guard stored_application stored_reference escapes data_of field_of any_escapes guard_wrong application_wrong reference_wrong judge_pieces judge_interval judge_intervals judge_block judge_blocks field_bytes with_field stored_block stored_blocks long_rule other_rule plain_rule type_rules code_rule check_rule range_rule moved_of size_rule buffer_of buffer_rule refusal admitted columns_of application_known reference_known first_tag rules_of start_of inserted_application inserted_reference marks_of checked_on blocks_of whole judged_on judged handed received overwritten moved performed executed compares user_data same compare_blocks compared verdict xor_parts parity_of stripe_rules in_range made parity_case on_segments each_code comparing sixteen place_rule faulty_at faults_from first_from covered_of scrub_rules scrubbed scrubbing
each_code_lem = refl
