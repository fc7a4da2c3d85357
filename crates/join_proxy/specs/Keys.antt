-- A proxy, its key, and how many numbers were issued with it.
use Rattle.std.specs.Prelude.{cond, List, ℕ, Ok, Err, None, Some}
use Rattle.lemmas.specs.lists.Same.{same}
use Rattle.refusal.specs.declared.Refusal.TheVariants.{Range}
use Rattle.join_proxy.specs.Issued.{Issued}
use Rattle.join_proxy.specs.declared.proxy.SetKeyResult.{SetKeyResult}
use Rattle.join_proxy.specs.declared.proxy.Proxy.{Proxy}

-- how many numbers were issued with the present key: 0 up to the one before
abbrev pub count_of : Issued → ℕ
count_of (Some n) = n
count_of None = 4294967296

-- made with a key: nothing is issued
abbrev pub fresh : List ℕ → Proxy
fresh key = record { key = key; next = Some 0 }

-- a new key begins at 0 again; the key in use is RANGE
abbrev pub set_key : Proxy → List ℕ → SetKeyResult
set_key p key =
    cond (same p.key key)
    (record { verdict = Err Range; proxy = p })
    (record { verdict = Ok tt; proxy = fresh key })
