-- The source's list is the proofs' list, whose rule was computed.
use Rattle.aes.proofs.Entries.{words, words-table, round-table}
use Rattle.aes.proofs.tables.round_table.Goals as goal

pub returns-clause-exact : goal.returns-clause-exact
unfolding words
returns-clause-exact c = words-table

pub returns-clause-right : goal.returns-clause-right
unfolding words
returns-clause-right c = round-table
