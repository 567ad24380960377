-- Every definition of rules under one name: a claim that the checker computes says `unfolding definitions`, and no list of its
-- own (Bench and BenchPremise here; Counterexamples in promises). A new definition is added to the lines of its file. Assumes nothing.
use Rattle.rules.specs.Limits
use Rattle.rules.specs.Crc
use Rattle.rules.specs.Sheet
use Rattle.rules.specs.Refusal
use Rattle.rules.specs.Job
use Rattle.rules.specs.Step
use Rattle.rules.specs.Order
use Rattle.rules.specs.Report
use Rattle.rules.specs.Service
use Rattle.rules.specs.Claims
use Rattle.rules.specs.Premise
use Rattle.rules.specs.BenchJob
use Rattle.rules.specs.BenchNumbered
use Rattle.rules.specs.BenchFurther
use Rattle.rules.specs.BenchProbes
use Rattle.rules.specs.BenchStandard
use Rattle.rules.specs.BenchRefusal
use Rattle.rules.specs.BenchRefused
use Rattle.rules.specs.BenchRooms
use Rattle.rules.specs.BenchProbesRefused
use Rattle.rules.specs.BenchStandardRefused

unfoldable pub definitions : Unit {0}
unfolding
    Limits.boards_size Limits.board_rows_size
    Crc.xor Crc.flip Crc.shift Crc.shifts Crc.crc_byte Crc.crc_from Crc.crc
    Sheet.no_op Sheet.no_board Sheet.P_of Sheet.N_of Sheet.op Sheet.board Sheet.is_send Sheet.is_standard Sheet.is_buffered
    Sheet.is_ready Sheet.is_receive Sheet.is_wait Sheet.is_probe Sheet.is_query Sheet.is_nonblocking
    Sheet.tells_message Sheet.tells_completion Sheet.tells Sheet.selects Sheet.only_half Sheet.no_half
    Sheet.takes_slot Sheet.names_slot Sheet.frees_slot Sheet.sum_before Sheet.counts_before Sheet.inbox_start
    Sheet.inbox_total Sheet.rank_from Sheet.rank_of Sheet.two Sheet.boards_in Sheet.ops_in Sheet.second_in Sheet.sheet_in
    Refusal.refusal Refusal.or_else Refusal.first_broken Refusal.sizes_good Refusal.layout_good Refusal.crc_good
    Refusal.board_good Refusal.boards_refusal Refusal.or_any Refusal.envelope_good Refusal.slot_good
    Refusal.extent_good Refusal.wait_good Refusal.probe_good Refusal.fields_good Refusal.room_for Refusal.op_good Refusal.ops_refusal
    Refusal.freed Refusal.holds Refusal.some_below Refusal.slot_held Refusal.share Refusal.area_taken
    Refusal.request_good Refusal.slot_freed Refusal.requests_refusal Refusal.tables_refusal Refusal.sheet_refusal
    Job.entry Job.bare_entry Job.figures Job.place Job.first_place Job.job Job.started Job.entry_at Job.place_at
    Job.account Job.with_account Job.with_entries
    Job.with_places Job.with_messages Job.with_receives Job.with_memory Job.with_stop Job.with_steps
    Step.next_op Step.is_finished Step.complete Step.waited_below Step.waited Step.complete_if Step.half_complete
    Step.is_none Step.half_ends Step.in_waiting_half Step.able Step.fits_with Step.first_by Step.first_message Step.first_receive
    Step.without Step.splice Step.area_start Step.is_cut Step.copied Step.delivered Step.store_of Step.kept_in
    Step.size_of Step.charge_of Step.charged
    Step.released Step.with_place Step.charge Step.release Step.matched_rows Step.matched Step.with_state
    Step.pend_message Step.pend_receive Step.stopped Step.one_finished Step.now_waiting Step.initiated
    Step.fits_beside Step.fits_buffer Step.fits_room Step.kept Step.not_kept Step.unmatched Step.sent Step.received Step.initiating Step.probe_row Step.query_row
    Step.half_row Step.ended Step.step
    Order.followed Order.follow_from Order.follow Order.lowest_able Order.next_rank Order.none_able Order.ran
    Order.run_next Order.run_from Order.run
    Report.low_two Report.count_from Report.is_pending_message Report.is_pending_receive Report.pending_messages
    Report.pending_receives Report.cut_messages Report.all_finished Report.verdict_of Report.stop_bytes
    Report.header_bytes Report.board_state Report.room_bytes Report.board_row Report.board_rows Report.op_row Report.op_rows
    Report.report
    Service.Answers Service.CheckSays Service.room_refusal Service.order_refusal Service.in_front Service.kept_or
    Service.scratch_left Service.follow_refusal Service.FollowSays Service.run_refusal Service.RunSays
    Claims.passes Claims.is_any_source Claims.none_wild Claims.all_charges Claims.script
    Claims.covers Claims.none_or_covers Claims.every_board Claims.all_covered Claims.rooms_cover Claims.calm Claims.accepts
    Claims.left_by Claims.two_zeroed Claims.row_without_peaks Claims.rows_without_peaks Claims.without_peaks Claims.Alike
    Premise.source_good Premise.any_source_refusal Premise.mode_good Premise.ready_refusal Premise.cover_good
    Premise.cover_refusal Premise.query_good Premise.query_refusal Premise.room_good Premise.rooms_refusal
    Premise.calm_refusal Premise.premise_refusal Premise.PremiseSays
    BenchJob.scripts_of BenchJob.lines_of BenchJob.P_drafted BenchJob.N_drafted BenchJob.as_words
    BenchJob.line_bytes BenchJob.all_line_bytes BenchJob.entry_bytes BenchJob.laid_out BenchJob.draft_bytes
    BenchJob.row_width BenchJob.same
    BenchJob.verdict_bytes BenchJob.opening BenchJob.rows_bytes BenchJob.partner_by BenchJob.finding_by
    BenchJob.row_good BenchJob.rows_match
    BenchJob.same_if_given BenchJob.reported BenchJob.driven BenchJob.as_expected BenchJob.all
    BenchNumbered.case_1_sheet BenchNumbered.nonblocking_sheet BenchNumbered.ready_sheet
    BenchNumbered.any_source_sheet BenchNumbered.numbered_jobs
    BenchFurther.further_jobs
    BenchProbes.probe_sheet BenchProbes.probe_buffered_sheet BenchProbes.any_probe_sheet BenchProbes.query_sheet
    BenchProbes.query_receive_sheet BenchProbes.stopped_sheet BenchProbes.hanging_sheet BenchProbes.probe_jobs
    BenchStandard.both_send_first BenchStandard.both_rooms_sheet BenchStandard.some_covered_sheet
    BenchStandard.two_accounts_sheet BenchStandard.room_jobs
    BenchRefusal.altered BenchRefusal.header_only BenchRefusal.plain BenchRefusal.of_rank_1 BenchRefusal.of_each
    BenchRefusal.is_answer BenchRefusal.as_answered
    BenchRefused.bench_calls
    BenchProbesRefused.probe_calls
    BenchStandardRefused.plain_2 BenchStandardRefused.room_calls
    BenchRooms.FollowLeaves BenchRooms.RunLeaves BenchRooms.BenchRooms
definitions = tt
