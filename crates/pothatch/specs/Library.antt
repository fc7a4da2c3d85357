-- The library itself: the sizes of the structs, and the names of the refusals.
use Rattle.std.specs.Prelude.{ℕ, cond, List, ◌≡◌, eqb, length, replicate}
use Rattle.refusal.specs.Refusal.{number_of, name_of}
use Rattle.refusal.specs.declared.Refusal.{Refusal}
use Rattle.object_image.specs.Request.{request_image}
use Rattle.object_image.specs.Configuration.{configuration_image}
use Rattle.node_image.specs.Node.{node_image}
use Rattle.node_image.specs.Answers.{dispositions_image, frame_key_image}
use Rattle.state_image.specs.Ledger.{ledger_image}
use Rattle.state_image.specs.Proxy.{proxy_image, pledge_image}
use Rattle.serial_calls.specs.Serial.{serial_image}
use Rattle.replay_calls.specs.Replayed.{replayed_image}

-- the size of the struct of a kind: join request Q, configuration C, node N, reports R, frame key K, ledger L, proxy P, pledge G, serial
-- S, what a replay tells T; 0 where there is none
abbrev pub size_of : ℕ → ℕ
size_of kind =
    cond (eqb kind 0x51) request_image.size
    (cond (eqb kind 0x43) configuration_image.size
    (cond (eqb kind 0x4e) node_image.size
    (cond (eqb kind 0x52) dispositions_image.size
    (cond (eqb kind 0x4b) frame_key_image.size
    (cond (eqb kind 0x4c) ledger_image.size
    (cond (eqb kind 0x50) proxy_image.size
    (cond (eqb kind 0x47) pledge_image.size
    (cond (eqb kind 0x53) serial_image.size
    (cond (eqb kind 0x54) replayed_image.size 0)))))))))

-- RANGE where there is no such kind
abbrev pub size_number : ℕ → ℕ
size_number kind = cond (eqb (size_of kind) 0) 13 0

-- the bytes are the name of a refusal with this number
pub record Named (number : ℕ) (x : List ℕ) : Type 0 where
  pub refusal : Refusal
  pub its-number : number_of refusal ≡ number
  pub its-name : x ≡ name_of refusal

-- asking for the name of a number: r was answered, and the struct s of eight bytes holds s' afterwards
pub record Names (number : ℕ) (s : List ℕ) (r : ℕ) (s' : List ℕ) : Type 0 where
  pub unfit : ¬ (length s ≡ 8) → (r ≡ 13) × (s' ≡ s)
  pub named : (k : Refusal) → number_of k ≡ number → length s ≡ 8 → (r ≡ 0) × Named number s'
  pub nobody : ((k : Refusal) → number_of k ≡ number → ⊥) → length s ≡ 8 → (r ≡ 13) × (s' ≡ replicate 8 0)
