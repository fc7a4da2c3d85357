-- What was gathered in zeros is the list.
use Rattle.std.proofs.Common.{drop, replicate, refl, ◌∙◌}
use Rattle.cojp.specs.Bytes.{members_at}
use Rattle.cojp.specs.Lists.{strings_in}
use Rattle.cojp_list.proofs.Gathering.{list-read}
use Rattle.cojp_list.proofs.strings.read_strings.Goals as goal

pub returns : goal.returns
returns c =
    let a = c.args in
    let g = c.gather_strings-gathered in
    c.list_read.ensures
    ∙ list-read (strings_in (members_at a.count (drop a.from a.s.now))) (replicate 253 0) refl g.result g.new.dst g.ensures
