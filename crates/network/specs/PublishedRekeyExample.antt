-- Demand 3 in the published form (document 02, request 11): the line with all its nodes of that form, the border router among them. The key
-- of the new set has additional information, and a bad JRC address comes with it to the border router, which takes the one and reports the
-- other.
use Rattle.std.specs.Prelude.{ℕ, ◌≡◌, List, [], ◌∷◌, ◌++◌, replicate}
use Rattle.link_key.specs.set.KeySet.{no_keys}
use Rattle.link_key.specs.Key.{key_with_additional_info}
use Rattle.link_key.specs.declared.Key.{Key}
use Rattle.link_key.specs.declared.additional_info.AdditionalInfo.TheVariants as info
use Rattle.cojp.specs.ErrorReports.{error_report_of, error_report_list}
use Rattle.cojp.specs.KeySet.{key_set_of}
use Rattle.protocol_version.specs.declared.Version.TheVariants.{Published}
use Rattle.node.specs.Node.{active_of, pending_of}
use Rattle.node_laws.specs.Calls.{delivering}
use Rattle.node_laws.specs.Laws.{Takes}
use Rattle.node_attempt.specs.declared.delivery.Delivery.TheVariants.{JoinAnswer, Update}
use Rattle.network.specs.Network.{Network, node_at}
use Rattle.network.specs.Events.{Event, turning, calling, run, Admissible, Throughout}
use Rattle.network.specs.Rounds.{Neighbours, Hops, AllLinked, Rounds}
use Rattle.network.specs.Demand3.{Supposed, NoneUsedUp, NoneSendsUnder, Rekeyed, handed}
use Rattle.network.specs.RekeyExample.{old_keys, joined_as, line_links, worst, twice}

-- the new set: a key with identifier 5 for all frames, with the key source 01020304
abbrev pub keys_with_info : List Key
keys_with_info = key_with_additional_info 5 0 (replicate 16 0x22) (info.Four 1 2 3 4) ∷ []

abbrev pub published_line : Network
published_line =
    joined_as Published 1 no_keys ∷ joined_as Published 0 (key_set_of keys_with_info) ∷ joined_as Published 0 (key_set_of keys_with_info) ∷ []

-- a JRC address of one byte, and the new set
abbrev pub bad_jrc_beside : List ℕ
bad_jrc_beside = 0xA2 ∷ 0x04 ∷ 0x41 ∷ 0x00 ∷ 0x02 ∷ 0x83 ∷ 0x05 ∷ 0x50 ∷ (replicate 16 0x22 ++ (0x44 ∷ 1 ∷ 2 ∷ 3 ∷ 4 ∷ []))

-- before: frames pass; the border router refuses the same payload where it comes with an old time (CLOCK), or as a join answer (PHASE)
abbrev pub first_published : List Event
first_published =
    turning 0 1 1
    ∷ turning 2 1 1
    ∷ calling 0 (delivering Update 11000 bad_jrc_beside)
    ∷ calling 0 (delivering JoinAnswer 13000 bad_jrc_beside)
    ∷ []

abbrev pub taken_published : Network
taken_published = handed (run published_line first_published) 0 Update 20000 bad_jrc_beside

pub record PublishedRekeyExample : Type 0 where
  -- no premise of demand 3 is empty in the published form
  pub supposed : Supposed published_line 0 keys_with_info 1
  pub before : Admissible published_line first_published
  pub unspent-before : Throughout (NoneUsedUp keys_with_info 1) published_line first_published
  pub takes : Takes Update (node_at (run published_line first_published) 0) 20000 bad_jrc_beside keys_with_info
  pub after : Admissible taken_published twice
  pub unspent-after : Throughout (NoneUsedUp keys_with_info 1) taken_published twice
  pub linked : AllLinked line_links 1 twice
  pub rounds : Rounds line_links 1 2 twice
  pub hops : Hops (Neighbours line_links) 2 0 2
  -- the border router has the set active at once, and reports the JRC address as malformed: nothing before it, and still after the rounds
  pub border-active : active_of (node_at taken_published 0) ≡ keys_with_info
  pub unreported : error_report_list (node_at (run published_line first_published) 0).errors ≡ []
  pub reported : error_report_list (node_at taken_published 0).errors ≡ error_report_of 1 4 ∷ []
  pub still-reported : error_report_list (node_at (run taken_published twice) 0).errors ≡ error_report_of 1 4 ∷ []
  -- after one round the far node still has the set pending, after two it is active, with its key source
  pub one-round-active : active_of (node_at (run taken_published worst) 2) ≡ old_keys
  pub one-round-pending : pending_of (node_at (run taken_published worst) 2) ≡ keys_with_info
  pub two-rounds-active : active_of (node_at (run taken_published twice) 2) ≡ keys_with_info
  pub two-rounds-pending : pending_of (node_at (run taken_published twice) 2) ≡ []
  -- by demand 3
  pub none-sends : NoneSendsUnder keys_with_info published_line first_published
  pub rekeyed : Rekeyed keys_with_info 1 (node_at (run taken_published twice) 2)
