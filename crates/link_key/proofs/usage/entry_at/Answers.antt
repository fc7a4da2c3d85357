-- `entry_at` meets its contract: the table is what the rule gives at its fifteen places, computed once.
use mathlib.Core.Path.{sym}
use Rattle.link_key.proofs.usage.Usages.{entry-refused, entry-of-table}
use Rattle.link_key.specs.usage.Usage.{usage_of}
use Rattle.link_key.proofs.usage.entry_at.Goals as goal

pub returns-then-usage-gt14 : goal.returns-then-usage-gt14
returns-then-usage-gt14 c = sym (entry-refused _ c.if-usage-gt14.true)

pub returns : goal.returns
unfolding usage_of
returns c = entry-of-table _ _ c.if-usage-gt14.false
