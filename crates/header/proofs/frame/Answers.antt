-- `frame` meets its contract.
use Rattle.header.proofs.Laws.{frame_kind, frame_options, frame_index, frame_past, frame_data, frame_whole, no_form, one_form}
use Rattle.header.proofs.frame.Goals as goal

pub returns-then-not-kind_ok-clause-result_value : goal.returns-then-not-kind_ok-clause-result_value
returns-then-not-kind_ok-clause-result_value c = search frame_kind

pub returns-then-not-kind_ok-clause-form_told : goal.returns-then-not-kind_ok-clause-form_told
returns-then-not-kind_ok-clause-form_told c = search no_form

pub returns-then-not-options_ok-clause-result_value : goal.returns-then-not-options_ok-clause-result_value
returns-then-not-options_ok-clause-result_value c = search frame_options

pub returns-then-not-options_ok-clause-form_told : goal.returns-then-not-options_ok-clause-form_told
returns-then-not-options_ok-clause-form_told c = search no_form

pub returns-then-index-gt-MOST_INDEX_BLOCKS-clause-result_value : goal.returns-then-index-gt-MOST_INDEX_BLOCKS-clause-result_value
returns-then-index-gt-MOST_INDEX_BLOCKS-clause-result_value c = search frame_index

pub returns-then-index-gt-MOST_INDEX_BLOCKS-clause-form_told : goal.returns-then-index-gt-MOST_INDEX_BLOCKS-clause-form_told
returns-then-index-gt-MOST_INDEX_BLOCKS-clause-form_told c = search no_form

pub returns-then-s-start-clause-result_value : goal.returns-then-s-start-clause-result_value
returns-then-s-start-clause-result_value c = search frame_past

pub returns-then-s-start-clause-form_told : goal.returns-then-s-start-clause-form_told
returns-then-s-start-clause-form_told c = search no_form

pub returns-then-data-gt-MOST_BLOCKS-clause-result_value : goal.returns-then-data-gt-MOST_BLOCKS-clause-result_value
returns-then-data-gt-MOST_BLOCKS-clause-result_value c = search frame_data

pub returns-then-data-gt-MOST_BLOCKS-clause-form_told : goal.returns-then-data-gt-MOST_BLOCKS-clause-form_told
returns-then-data-gt-MOST_BLOCKS-clause-form_told c = search no_form

pub returns-clause-result_value : goal.returns-clause-result_value
returns-clause-result_value c = search frame_whole

pub returns-clause-form_told : goal.returns-clause-form_told
returns-clause-form_told c = search one_form
