-- The table, by computation: each line is one value written twice.
use borrow.Author.Rules.{rules}
use lib.Ieee.{of_int, mul, div, to_unsigned}
use Rattle.rank_sel.specs.Lists.{same_list}
use Rattle.rank_sel.specs.Numbers.{clog2, first_from, ilog2, sum}
use Rattle.rank_sel.specs.Rank.{rank}
use Rattle.rank_sel.specs.Seek.{seek, select}
use Rattle.rank_sel.specs.Step.{last_before}
use Rattle.select_in_word.specs.Bit.{bit}
use Rattle.select_in_word.specs.Select.{select_in_word}
use Rattle.bit_record.specs.Record.{bit_at, selected, num_selected, count_of}
use Rattle.spacing.specs.Spacing.{capped_log2_words, chosen_plan, overhead_span, overhead_target, plan_for, plan_of, span_log2}
use Rattle.inventory.specs.Index.{bound, entries_of, entry_from, entry_of, inventory_len_of, inventory_of, inventory_to, lane, mark, own_cells, packed, ranks_of, spill_cells, spill_of, spill_start, spill_to, start_of, stream, summary_of}
use Rattle.inventory.specs.Lanes.{lane_of, pack, tabulate}
use Rattle.inventory.specs.Lawful.{unlawful}
use Rattle.inventory.specs.Numbers.{polarity_at, summary_at, numbers_of}
use Rattle.inventory.specs.Shape.{log2_ones_per_sub32}
use Rattle.inventory.specs.Spans.{taken_off}
use Rattle.build_inventory.specs.Build.{build_from, build_of, check_of, fitted, same_plan, same_summary}
use Rattle.build_inventory.specs.Compare.{same_index}
use Rattle.read_inventory.specs.Jump.{dwell_at, dwell_of, hint_of, hint_sample, sample_of, select_of, store_of, subinventory_of}
use Rattle.read_inventory.specs.Read.{cell_at, hint_at, kind_at, mark_at, mark_number, mark_of_rank, number_at, place_at, position_of, quantum_at, residual, shape_at, span_at, start_at}
use Rattle.select_list.specs.List.{any_too_large, falls_from, list_of, sum_over, walk, walk_of}
use Rattle.select_list.specs.Step.{read_from, single_words, step_from, step_of, words_read}
use Rattle.index_image.specs.Bytes.{word_bytes, bytes_of, word_from, words_from}
use Rattle.index_image.specs.Image.{header_of, image_of, write_of, summary_in, inventory_in, spill_in, image_unlawful, read_of}
use Rattle.rank_inventory.specs.Rank.{starts_unlawful, rank_at, rank_of}
use Rattle.rank_inventory.specs.Starts.{starts_rise}
use Rattle.step_knob.specs.Step.{next_of, previous_of, turn_of}
use Rattle.edge_index.specs.Table.{Agree, table, lists, origins, images, steps, limits, WorkedRecords}

table_agrees : Agree table
unfolding rank seek select bit select_in_word bit_at selected num_selected count_of
    clog2 first_from ilog2 capped_log2_words chosen_plan overhead_span overhead_target plan_for plan_of span_log2 of_int mul div to_unsigned
    bound entries_of entry_from entry_of inventory_len_of inventory_of inventory_to lane mark own_cells packed ranks_of spill_cells spill_of spill_start
    spill_to start_of stream summary_of
    lane_of pack sum tabulate
    cell_at mark_of_rank dwell_at dwell_of kind_at mark_at mark_number number_at place_at position_of quantum_at residual sample_of select_of shape_at
    span_at start_at unlawful
    taken_off log2_ones_per_sub32 build_from build_of check_of fitted same_plan same_summary same_index same_list
table_agrees = search rules

lists_agree : Agree lists
unfolding rank seek bit bit_at selected entries_of inventory_len_of lane_of
    cell_at mark_of_rank kind_at mark_at mark_number number_at place_at position_of quantum_at residual sample_of select_of shape_at span_at
    start_at unlawful
    any_too_large falls_from list_of sum_over walk walk_of read_from single_words step_from step_of words_read
lists_agree = search rules

origins_agree : Agree origins
unfolding rank seek select bit bit_at selected num_selected count_of clog2 first_from ilog2 capped_log2_words chosen_plan plan_for plan_of
    bound entries_of entry_from entry_of inventory_len_of inventory_of inventory_to lane mark own_cells packed ranks_of spill_cells spill_of spill_start
    spill_to start_of stream summary_of
    lane_of pack sum tabulate
    cell_at mark_of_rank dwell_at dwell_of hint_at hint_of hint_sample kind_at mark_at mark_number number_at place_at position_of quantum_at residual
    sample_of select_of shape_at span_at start_at store_of subinventory_of unlawful
    build_from build_of check_of fitted same_plan same_summary same_index same_list
    any_too_large falls_from list_of walk walk_of read_from step_from step_of words_read
origins_agree = search rules

images_agree : Agree images
unfolding lane_of pack tabulate entries_of inventory_len_of unlawful same_list polarity_at summary_at numbers_of
    word_bytes bytes_of word_from words_from header_of image_of write_of summary_in inventory_in spill_in image_unlawful read_of
images_agree = search rules

steps_agree : Agree steps
unfolding rank seek bit bit_at selected entries_of inventory_len_of kind_at start_at cell_at unlawful
    last_before starts_rise starts_unlawful rank_at rank_of next_of previous_of turn_of
steps_agree = search rules

limits_agree : Agree limits
unfolding bit bit_at selected num_selected count_of clog2 first_from ilog2 capped_log2_words chosen_plan overhead_span overhead_target plan_for plan_of
    span_log2 of_int mul div to_unsigned
    bound entries_of entry_from entry_of inventory_len_of ranks_of spill_start start_of summary_of sum rank seek select unlawful select_of
    build_from build_of check_of fitted same_plan same_summary same_index same_list
    lane_of pack tabulate polarity_at summary_at numbers_of word_bytes bytes_of word_from words_from header_of image_of summary_in inventory_in spill_in
    image_unlawful read_of
limits_agree = search rules

pub worked_records : WorkedRecords
worked_records = record {
  starred = table_agrees;
  of_lists = lists_agree;
  of_origins = origins_agree;
  of_steps = steps_agree;
  of_images = images_agree;
  of_limits = limits_agree;
}
