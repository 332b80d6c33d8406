use Rattle.std.proofs.Common.{◌≡◌, ◌+◌, ◌*◌, length}
use Rattle.json_nodes.specs.Nodes.{data_of, items_of}
use Rattle.json_values.specs.Form.{list_of}
use Rattle.json_statements.specs.Statements.{block_at, located_with, case_with}
use Rattle.json_values.proofs.Lists.{each_behind}
use Rattle.json_statements.proofs.statements.+block.Given as goal

abbrev pub decreases-read_block : goal.decreases-read_block
decreases-read_block l = l.levels * 10

abbrev pub decreases-block_in : goal.decreases-block_in
decreases-block_in l = l.levels * 10 + 1

abbrev pub decreases-blocks_in : goal.decreases-blocks_in
decreases-blocks_in l = l.levels * 10 + 2

abbrev pub decreases-read_if : goal.decreases-read_if
decreases-read_if l = l.levels * 10 + 3

abbrev pub decreases-read_loop : goal.decreases-read_loop
decreases-read_loop l = l.levels * 10 + 3

abbrev pub decreases-read_case : goal.decreases-read_case
decreases-read_case l = l.levels * 10 + 2

abbrev pub decreases-read_cases : goal.decreases-read_cases
decreases-read_cases l = l.levels * 10 + 3

abbrev pub decreases-read_switch : goal.decreases-read_switch
decreases-read_switch l = l.levels * 10 + 4

abbrev pub decreases-read_held_statement : goal.decreases-read_held_statement
decreases-read_held_statement l = l.levels * 10 + 5

abbrev pub decreases-read_statement : goal.decreases-read_statement
decreases-read_statement l = l.levels * 10 + 6

abbrev pub decreases-read_long : goal.decreases-read_long
decreases-read_long l = l.levels * 10 + 7

abbrev pub decreases-read_located : goal.decreases-read_located
decreases-read_located l = l.levels * 10 + 8

abbrev pub decreases-read_statements : goal.decreases-read_statements
decreases-read_statements l = l.levels * 10 + 9

abbrev pub invariant-read_statements-loop-item : goal.invariant-read_statements-loop-item
invariant-read_statements-loop-item l = each_behind (located_with (block_at l.levels)) l.list (items_of l.items) ≡ list_of (located_with (block_at l.levels)) (data_of l.value)

abbrev pub decreases-read_statements-loop-item : goal.decreases-read_statements-loop-item
decreases-read_statements-loop-item l = length l.items

abbrev pub invariant-read_cases-loop-item : goal.invariant-read_cases-loop-item
invariant-read_cases-loop-item l = each_behind (case_with (block_at l.levels)) l.cases (items_of l.items) ≡ list_of (case_with (block_at l.levels)) (data_of l.value)

abbrev pub decreases-read_cases-loop-item : goal.decreases-read_cases-loop-item
decreases-read_cases-loop-item l = length l.items
