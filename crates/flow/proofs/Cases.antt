-- The table of flow files holds: each file is read as the table says; and so is a continuation that only a file of many statements has.
-- By computing every reading.
use mathlib.Core.List.{[], ◌∷◌, map}
use mathlib.Core.Option.{some}
use mathlib.Core.Path.{◌≡◌, refl}
use Rattle.flow.specs.Format.{read_flow, continuation_at, le_at, tabulate, verdict, each, header_checks, start_checks, successor_checks, reference_count_checks, reference_checks, name_checks, item_checks, line_checks, continuation_checks, dim_checks, gosub_checks, on_gosub_checks, data_checks, rest_checks, record_checks, record_end, record_place, statement_checks, count_lines, line_record_checks, key_checks, end_checks, file_checks, kind_of, statement_at, flow_of}
use Rattle.flow.specs.Cases.{read_cases, u16s}

pub cases-right : map (λ c. read_flow c.bytes) read_cases ≡ map (λ c. c.reading) read_cases
unfolding le_at tabulate verdict each header_checks start_checks successor_checks reference_count_checks reference_checks name_checks item_checks line_checks continuation_checks dim_checks gosub_checks on_gosub_checks data_checks rest_checks record_checks record_end record_place statement_checks count_lines line_record_checks key_checks end_checks file_checks kind_of statement_at flow_of
cases-right = refl

pub continuation-right : continuation_at (u16s (256 ∷ [])) 0 ≡ some 256
unfolding le_at
continuation-right = refl
