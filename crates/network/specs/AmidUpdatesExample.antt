-- The claim beside demand 3 speaks of lists that demand 3 has not: the line of RekeyExample, with updates that are accepted.
use Rattle.std.specs.Prelude.{ℕ, ◌≡◌, List, [], ◌∷◌, ◌++◌, replicate, Ok}
use Rattle.cojp.specs.declared.disposition.Disposition.TheVariants.{Discarded}
use Rattle.node.specs.Delivery.{deliver}
use Rattle.node.specs.Node.{active_of, pending_of}
use Rattle.node_laws.specs.Calls.{delivering}
use Rattle.node_laws.specs.Laws.{Takes}
use Rattle.node_attempt.specs.declared.delivery.Delivery.TheVariants.{Update}
use Rattle.network.specs.Network.{Network, node_at}
use Rattle.network.specs.Events.{Event, turning, calling, run, Admissible, Throughout}
use Rattle.network.specs.AmidUpdates.{AdmissibleAmidUpdates}
use Rattle.network.specs.Rounds.{AllLinked, Rounds}
use Rattle.network.specs.Demand3.{NoneUsedUp, NoneSendsUnder, Rekeyed, handed}
use Rattle.network.specs.RekeyExample.{new_keys, line, line_links, payload, worst}

-- a key set that shares identifier 1 with the active set of every node, and a JRC address without a key set
abbrev pub clashing : List ℕ
clashing = 0xA1 ∷ 0x02 ∷ 0x82 ∷ 0x01 ∷ 0x50 ∷ replicate 16 0x33

abbrev pub jrc_alone : List ℕ
jrc_alone = 0xA1 ∷ 0x04 ∷ 0x50 ∷ replicate 16 0x20

-- before: the far node, which is of the published form, accepts the clashing update without its key set; the one in the middle accepts a
-- JRC address
abbrev pub first_amid : List Event
first_amid =
    turning 0 1 1 ∷ calling 2 (delivering Update 13000 clashing) ∷ calling 1 (delivering Update 13000 jrc_alone) ∷ turning 2 1 1 ∷ []

abbrev pub taken_amid : Network
taken_amid = handed (run line first_amid) 0 Update 20000 payload

-- two rounds, the clashing update once more after the first
abbrev pub round_amid : List Event
round_amid = worst ++ (calling 2 (delivering Update 21000 clashing) ∷ [])

abbrev pub second_amid : List Event
second_amid = round_amid ++ (worst ++ [])

pub record AmidUpdatesExample : Type 0 where
  -- the update is accepted, its key set is not taken, and what was pending stays
  pub clash-accepted : (deliver Update (node_at line 2) 13000 clashing).verdict ≡ Ok tt
  pub clash-discarded : (deliver Update (node_at line 2) 13000 clashing).dispositions.keys ≡ Discarded
  pub still-pending : pending_of (node_at (run line first_amid) 2) ≡ new_keys
  -- such a list is none of demand 3's
  pub before : AdmissibleAmidUpdates line first_amid
  pub not-demand3 : Admissible line first_amid → ⊥
  pub unspent-before : Throughout (NoneUsedUp new_keys 1) line first_amid
  pub takes : Takes Update (node_at (run line first_amid) 0) 20000 payload new_keys
  pub after : AdmissibleAmidUpdates taken_amid second_amid
  pub unspent-after : Throughout (NoneUsedUp new_keys 1) taken_amid second_amid
  pub linked : AllLinked line_links 1 second_amid
  pub rounds : Rounds line_links 1 2 second_amid
  -- the clashing update of the second list is accepted too
  pub clash-accepted-after : (deliver Update (node_at (run taken_amid worst) 2) 21000 clashing).verdict ≡ Ok tt
  pub two-rounds-active : active_of (node_at (run taken_amid second_amid) 2) ≡ new_keys
  -- by the claim
  pub none-sends : NoneSendsUnder new_keys line first_amid
  pub rekeyed : Rekeyed new_keys 1 (node_at (run taken_amid second_amid) 2)
