-- A node's blacklist (RFC 9031): the entries that it took last.
use Rattle.std.specs.Prelude.{Bool, true, false, cond}
use Rattle.cojp.specs.Lists.{no_list, strings_in, kept}
use Rattle.cojp.specs.Reading.{if_taken}
use Rattle.cojp.specs.declared.list.ListParameter.{ListParameter}
use Rattle.node_parameters.specs.declared.blacklist.HeldList.{HeldList}

abbrev pub absent_list : HeldList
absent_list = record { held = false; value = no_list }

-- byte strings, as a reader keeps them; one that is not held is not judged
abbrev pub valid_list : HeldList → Bool
valid_list h = cond h.held (kept strings_in h.value) true

-- after a configuration: the one taken, else the old one
abbrev pub list_after : ListParameter → HeldList → HeldList
list_after p old = if_taken p.disposition (record { held = true; value = p.value }) old
