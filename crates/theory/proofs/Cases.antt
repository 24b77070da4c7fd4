-- The cases of the paper hold: one table and one theorem, which the checker computes, from the bytes of a file to its masks, visits, live sets, listing, certain names, sure arrays, names that interfere and accepted tables.
-- Assumes nothing.
use lib.Dec.{T}
use Rattle.flow.specs.Flow.{first_of}
use Rattle.flow.specs.Format.{le_at, tabulate, verdict, each, header_checks, start_checks, successor_checks, reference_count_checks, reference_checks, name_checks, item_checks, line_checks, continuation_checks, dim_checks, gosub_checks, on_gosub_checks, data_checks, rest_checks, record_checks, record_end, record_place, statement_checks, count_lines, line_record_checks, key_checks, end_checks, file_checks, kind_of, statement_at, flow_of, area_checks}
use Rattle.theory.specs.Lists.{any, elem, select, concat_map, option_list, up_to, sum_below, max_below, all_below, upd}
use Rattle.theory.specs.Reach.{closure, closure_fuel, reached}
use Rattle.theory.specs.Body.{entered, callees, walk_next, walked, called, bodies, touches, on_cycle, opaque, opaque_call, call_touches}
use Rattle.theory.specs.Key.{opaque_handler, handler_touches}
use Rattle.theory.specs.Sure.{gosub_body, can_return, returning, missed_from, missed_after, missed, sure}
use Rattle.theory.specs.Queue.{step_all, arc_count, brings, union_below, pulled, changed, enqueue, visit, initial}
use Rattle.theory.specs.Doubled.{returns_to, return_edges, once, call_edges, listed_edges, edges_of, edges, kind_effects, statement_effects, entering, continuation_effects, own_effects, key_effects, edge_effects, boundary, key_arcs, arcs_of, doubled}
use Rattle.theory.specs.Masks.{mask_left}
use Rattle.theory.specs.Computed.{visit_front, visit_times, solved, mask_of, visits_of, own_mask}
use Rattle.theory.specs.Accept.{mask_checks, mask_held, filled, arc_held, row_held, entry_held, is_all_any, all_held, accepted}
use Rattle.theory.specs.Live.{unwritten, is_live_in, is_live_out, names_word, live_in_word, live_out_word}
use Rattle.theory.specs.Certain.{reached_at, unwritten_at, certain, certain_word}
use Rattle.theory.specs.Interference.{after, used, together_at, together, interferes, interference_word, live_count, most_live}
use Rattle.theory.specs.Listing.{places_within, places, decimal, hexadecimal, line_of, mask_digits, first_line, statement_line, flow_text, refusal_text, listing}
use Rattle.theory.specs.Cases.{cases, all_right}

pub all_right_lem : T (all_right cases)
unfolding le_at tabulate verdict each header_checks start_checks successor_checks reference_count_checks reference_checks name_checks item_checks line_checks continuation_checks dim_checks gosub_checks on_gosub_checks data_checks rest_checks record_checks record_end record_place statement_checks count_lines line_record_checks key_checks end_checks file_checks kind_of statement_at flow_of area_checks first_of any elem select concat_map option_list up_to sum_below max_below all_below upd closure closure_fuel reached entered callees walk_next walked called bodies touches on_cycle opaque opaque_call call_touches opaque_handler handler_touches gosub_body can_return returning missed_from missed_after missed sure step_all arc_count brings union_below pulled changed enqueue visit visit_front visit_times initial solved returns_to return_edges once call_edges listed_edges edges_of edges kind_effects statement_effects entering continuation_effects own_effects key_effects edge_effects boundary key_arcs arcs_of doubled mask_left mask_of visits_of own_mask mask_checks mask_held filled arc_held row_held entry_held is_all_any all_held accepted unwritten is_live_in is_live_out names_word live_in_word live_out_word reached_at unwritten_at certain certain_word after used together_at together interferes interference_word live_count most_live places_within places decimal hexadecimal line_of mask_digits first_line statement_line flow_text refusal_text listing
all_right_lem = tt
