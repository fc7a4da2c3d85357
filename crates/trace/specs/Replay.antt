-- The replay of a trace: exactly the node that the calls of its records give, and the report of what they answered.
use Rattle.std.specs.Prelude.{ℕ, Bool, true, false, List, [], ◌∷◌}
use Rattle.node.specs.Node.{empty_node}
use Rattle.trace.specs.Trace.{Record, Trace, parse, records_in, is_over, end_of}
use Rattle.trace.specs.Calls.{node_by, answers_of}
use Rattle.trace.specs.Statistics.{statistics_of}
use Rattle.trace.specs.declared.state.ReplayResult.{ReplayResult}

-- the first record of a trace makes a node
abbrev pub makes_node : List Record → Bool
makes_node [] = false
makes_node (r ∷ rs) = true

-- where there is no node the empty one stands for it
abbrev pub replay_of : Trace → ReplayResult
replay_of n = record {
  complete = is_over n;
  offset = end_of n;
  made = makes_node (records_in n);
  node = node_by (records_in n) empty_node;
  statistics = statistics_of (answers_of (records_in n) empty_node);
}

unfoldable pub replay : List ℕ → ReplayResult
replay trace = replay_of (parse trace)
