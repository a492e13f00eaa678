-- `assembly::Plan::sizes` meets its contract: what is counted are the sizes. Assumes nothing.
use Rattle.std.proofs.Common.{◌∙◌, ap}
use Rattle.format.specs.Kinds.{record_size}
use Rattle.assembly.proofs.WholeBook.{book-fits, sizes-are, table_fits, tables-fit}
use Rattle.assembly.proofs.Plan.sizes.Goals as goal

pub overflow_mul-result : goal.overflow_mul-result
overflow_mul-result c =
    table_fits c.requires _ c.count_records-count.ensures (c.record_size-size.ensures.0 ∙ ap record_size c.form-form.ensures) c.record_size-size.ensures.1

pub overflow_add-result : goal.overflow_add-result
overflow_add-result c =
    tables-fit c.requires _ c.count_records-count.ensures (c.record_size-size.ensures.0 ∙ ap record_size c.form-form.ensures) c.record_size-size.ensures.1
    c.survey_blocks-survey.ensures

pub overflow_add-result-2 : goal.overflow_add-result-2
overflow_add-result-2 c =
    book-fits c.requires _ c.count_records-count.ensures (c.record_size-size.ensures.0 ∙ ap record_size c.form-form.ensures) c.record_size-size.ensures.1
    c.survey_blocks-survey.ensures

pub returns : goal.returns
returns c =
    sizes-are c.requires _ c.count_records-count.ensures (c.record_size-size.ensures.0 ∙ ap record_size c.form-form.ensures) c.record_size-size.ensures.1
    c.survey_blocks-survey.ensures
