-- The value has 16 bytes, so that it is copied whole.
use Rattle.cojp_key_set.proofs.KeySets.{storable-parts, value-copied}
use Rattle.cojp_key_set.proofs.group_key.Goals as goal

pub returns : goal.returns
returns c =
    let a = c.args in
    let g = a.group in
    let long = (storable-parts g.identifier g.usage g.len c.requires.len_value).2 in
    rw (
      c.key_with.ensures,
      c.unwrap_or-info.ensures,
      c.additional_info_at-info.ensures,
      value-copied a.part.now g.start g.len _ c.requires.len_in_bounds long c.copied-value.ensures,
    )
