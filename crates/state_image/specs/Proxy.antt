-- The image of a join proxy, 26 bytes: kind P, layout, key 16, numbers issued 8. And of a pledge that a body names, 21 bytes: kind G,
-- layout, interface identifier 8, port 2, token length 1, token 8.
use Rattle.std.specs.Prelude.{ℕ, ◌<◌, cond, List, ◌≡◌, ltb, None, Some}
use Rattle.image.specs.Part.{Part, byte, number, octets, up_to, both, viewed_if, viewed, headed}
use Rattle.join_proxy.specs.Keys.{count_of}
use Rattle.join_proxy.specs.declared.judging.Pledge.{Pledge}
use Rattle.join_proxy.specs.Issued.{Issued}
use Rattle.join_proxy.specs.declared.proxy.Proxy.{Proxy}

-- how many numbers there are
abbrev pub numbers : ℕ
numbers = 4294967296

abbrev pub issued_of : ℕ → Issued
issued_of n = cond (ltb n numbers) (Some n) None

-- a count that a program can hold
abbrev pub Held : Issued → Type 0
Held (Some n) = n < numbers
Held None = ◌≡◌ {A = ℕ} 0 0

abbrev pub issued_part : Part Issued
issued_part = viewed_if Held (up_to numbers (number 8)) issued_of count_of

abbrev pub proxy_to : List ℕ × Issued → Proxy
proxy_to x = record { key = x.0; next = x.1 }

abbrev pub proxy_from : Proxy → List ℕ × Issued
proxy_from p = (p.key, p.next)

abbrev pub proxy_image : Part Proxy
proxy_image = headed 0x50 (viewed (both (octets 16) issued_part) proxy_to proxy_from)

-- ---- a pledge
abbrev pub pledge_fields : Part (List ℕ × (ℕ × (ℕ × List ℕ)))
pledge_fields = both (octets 8) (both (number 2) (both byte (octets 8)))

abbrev pub pledge_to : List ℕ × (ℕ × (ℕ × List ℕ)) → Pledge
pledge_to x = record { interface = x.0; port = x.1.0; len = x.1.1.0; token = x.1.1.1 }

abbrev pub pledge_from : Pledge → List ℕ × (ℕ × (ℕ × List ℕ))
pledge_from w = (w.interface, (w.port, (w.len, w.token)))

abbrev pub pledge_image : Part Pledge
pledge_image = headed 0x47 (viewed pledge_fields pledge_to pledge_from)
