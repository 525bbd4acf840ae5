-- The claims, a theorem for each row of the table in docs/CLAIMS.md. Each is about the promises of the public calls (the specs/ of rules,
-- tape, reader and writer), so about any program that meets them. Assumes nothing.
pub mod Reading
pub mod Writing
pub mod Outcomes
pub mod PList
pub mod Impostors
pub mod Exports
pub mod Checking
pub use Reading.{accepted, measured, is_read, refusals, repeated_key, one_refusal, one_reading, bounded, unambiguous}
pub use Writing.{written, same_text, read_back, filed_before}
pub use Outcomes.{untouched, one_outcome, one_outcome_utf8, one_outcome_date, one_outcome_measure, one_outcome_read, one_outcome_look, one_outcome_write_jaxn}
pub use Outcomes.{one_outcome_write_json, one_outcome_check_start, one_outcome_check_feed, one_outcome_check_finish}
pub use PList.{p_list, slips_hold}
pub use Impostors.{impostors}
pub use Exports.{one_outcome_c, one_outcome_c_utf8, one_outcome_c_date, one_outcome_c_measure, one_outcome_c_read, one_outcome_c_look, one_outcome_c_write_jaxn}
pub use Exports.{one_outcome_c_write_json, one_outcome_c_check_start, one_outcome_c_check_feed, one_outcome_c_check_finish, calls_for_c}
pub use Checking.{checked}
