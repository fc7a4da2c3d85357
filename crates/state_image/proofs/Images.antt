-- The images are lawful by their tables; what the code reads at fixed places is what the fields get, one after the other.
use Rattle.std.specs.Prelude.{None, Some}
use Prim.Native.Nat.{ℕ, ◌<◌, ◌≤◌}
use mathlib.Core.Path.{◌≡◌, refl, ap, sym, ◌∙◌}
use mathlib.Core.Bool.{Bool, true, false, ◌&&◌, and_assoc}
use mathlib.Core.List.{List, [], ◌∷◌, ◌++◌}
use native.Mathlib.Omega.{arith}
use borrow.Author.Tests.{lt-ltb, le-ltb, le-leb, ltb-true, ltb-false, leb-true, eqb-true}
use lib.Dec.{eqb, leb, ltb}
use lib.ListN.{length, take, drop}
use lib.Seq.{drop-drop}
use Rattle.byte_io.specs.Write.{Wrote}
use Rattle.byte_io.specs.BigEndian.{big_endian, bytes_of}
use Rattle.lemmas.specs.logic.Tests.{both_left, both_right}
use Rattle.image.specs.Fields.{and-good, whole-struct, two_fields, four-fields}
use Rattle.image.specs.CodecLaws.{byte-lawful, number-lawful, octets-lawful, up_to-lawful}
use Rattle.image.specs.CodecLaws.{both-lawful, viewed-lawful, viewed_if-lawful, headed-lawful}
use Rattle.image.specs.Part.{RoundTrips, number, octets, up_to, both, viewed, is_headed, is_image}
use Rattle.join_proxy.specs.Keys.{count_of}
use Rattle.join_proxy.specs.declared.judging.Pledge.{Pledge}
use Rattle.join_proxy.specs.Issued.{Issued}
use Rattle.join_proxy.specs.declared.proxy.Proxy.{Proxy}
use Rattle.address_ledger.specs.Ledger.{ledger_of}
use Rattle.address_ledger.specs.declared.ledger.Ledger.{Ledger}
use Rattle.state_image.specs.Ledger.{ledger_fields, ledger_to, ledger_from, ledger_image}
use Rattle.state_image.specs.Proxy.{numbers, issued_of, Held, issued_part, proxy_to, proxy_from}
use Rattle.state_image.specs.Proxy.{proxy_image, pledge_fields, pledge_to, pledge_from, pledge_image}
use Rattle.state_image.specs.Laws.{StateImages}

-- ---- the ledger
pub is-ledger : (s : List ℕ) {r : Bool} → r ≡ (eqb (length s) 16 && is_headed 0x4c s) → r ≡ is_image ledger_image s
is-ledger s e = e ∙ ap (λ (b : Bool). eqb (length s) 16 && b) (and-good (is_headed 0x4c s))

pub ledger-got : (s : List ℕ) {a b c d : ℕ} → a ≡ big_endian (take 2 (drop 2 s)) → b ≡ big_endian (take 2 (drop 4 s))
    → c ≡ big_endian (take 2 (drop 6 s)) → d ≡ big_endian (take 8 (drop 8 s)) → ledger_of a b c d ≡ ledger_image.get s
ledger-got s e f g h = rw (e, f, g, h, drop-drop 2 2 s, drop-drop 2 4 s, drop-drop 2 6 s)

pub ledger-stored : (l : Ledger) {d d' : List ℕ} → length d ≡ 16
    → Wrote (((((0x4c ∷ 1 ∷ []) ++ bytes_of 2 l.first) ++ bytes_of 2 l.size) ++ bytes_of 2 l.free) ++ bytes_of 8 l.summary) d 16 d'
    → d' ≡ ledger_image.put l
ledger-stored l e w =
    whole-struct e w
    ∙ four-fields (0x4c ∷ 1 ∷ []) (bytes_of 2 l.first) (bytes_of 2 l.size) (bytes_of 2 l.free) (bytes_of 8 l.summary)

ledger-lawful : RoundTrips ledger_image
ledger-lawful =
    headed-lawful 0x4c (viewed ledger_fields ledger_to ledger_from)
    (viewed-lawful ledger_fields ledger_to ledger_from (λ l. refl) (λ x h. refl)
    (both-lawful _ _ (number-lawful 2) (both-lawful _ _ (number-lawful 2) (both-lawful _ _ (number-lawful 2) (number-lawful 8)))))

-- ---- how many were issued
pub some-issued : (n : ℕ) → n < numbers → Some n ≡ issued_of n
some-issued n h = rw (lt-ltb n numbers h)

pub all-issued : (n : ℕ) → numbers ≤ n → None ≡ issued_of n
all-issued n h = rw (le-ltb n numbers h)

issued-there : (i : Issued) → Held i → (up_to numbers (number 8)).Fit (count_of i)
issued-there (Some n) h = (omega arith, le-leb n numbers (omega arith))
issued-there None h = (omega arith, refl)

issued-again : (i : Issued) → Held i → issued_of (count_of i) ≡ i
issued-again (Some n) h = sym (some-issued n h)
issued-again None h = refl

issued-here : (n : ℕ) (b : Bool) → ltb n numbers ≡ b → Held (issued_of n)
issued-here n true e = rw e (ltb-true n numbers e)
issued-here n false e = rw e refl

issued-undone : (n : ℕ) (b : Bool) → ltb n numbers ≡ b → leb n numbers ≡ true → count_of (issued_of n) ≡ n
issued-undone n true e h = rw e
issued-undone n false e h = rw e (omega (arith, ltb-false n numbers e, leb-true n numbers h))

issued-lawful : RoundTrips issued_part
issued-lawful =
    viewed_if-lawful Held (up_to numbers (number 8)) issued_of count_of
    (record {
      there = issued-there;
      again = issued-again;
      here = λ n h. issued-here n (ltb n numbers) refl;
      undone = λ n h. issued-undone n (ltb n numbers) refl h.1;
    })
    (up_to-lawful numbers (number 8) (number-lawful 8))

-- ---- the proxy
module _ (s : List ℕ) where
  abbrev Head : Bool
  Head = (eqb (length s) 26 && is_headed 0x50 s)

  pub proxy-long : Head ≡ true → length s ≡ 26
  proxy-long e = eqb-true (length s) 26 (both_left (eqb (length s) 26) (is_headed 0x50 s) e)

  pub proxy-headed : {n : ℕ} → Head ≡ true → n ≡ big_endian (take 8 (drop 18 s)) → leb n numbers ≡ is_image proxy_image s
  proxy-headed e f =
      rw (both_left (eqb (length s) 26) (is_headed 0x50 s) e, both_right (eqb (length s) 26) (is_headed 0x50 s) e, f, drop-drop 16 2 s)

  pub proxy-not-headed : Head ≡ false → false ≡ is_image proxy_image s
  proxy-not-headed e = sym (ap (λ (b : Bool). b && leb (big_endian (take 8 (drop 16 (drop 2 s)))) numbers) e)
      ∙ and_assoc (eqb (length s) 26) (is_headed 0x50 s) _

  pub proxy-got : {k : List ℕ} {i : Issued} → k ≡ take 16 (drop 2 s) → i ≡ issued_of (big_endian (take 8 (drop 18 s)))
      → proxy_to (k, i) ≡ proxy_image.get s
  proxy-got e f = rw (e, f, drop-drop 16 2 s)

pub proxy-stored : (p : Proxy) {n : ℕ} {d d' : List ℕ} → length d ≡ 26 → n ≡ count_of p.next
    → Wrote (((0x50 ∷ 1 ∷ []) ++ p.key) ++ bytes_of 8 n) d 26 d' → d' ≡ proxy_image.put p
proxy-stored p e f w = whole-struct e w ∙ two_fields (0x50 ∷ 1 ∷ []) p.key (bytes_of 8 _) ∙ rw f

proxy-lawful : RoundTrips proxy_image
proxy-lawful =
    headed-lawful 0x50 (viewed (both (octets 16) issued_part) proxy_to proxy_from)
    (viewed-lawful (both (octets 16) issued_part) proxy_to proxy_from (λ p. refl) (λ x h. refl)
    (both-lawful _ _ (octets-lawful 16) issued-lawful))

-- ---- the pledge
pub pledge-stored : (w : Pledge) {d d' : List ℕ} → length d ≡ 21
    → Wrote (((((0x47 ∷ 1 ∷ []) ++ w.interface) ++ bytes_of 2 w.port) ++ (w.len ∷ [])) ++ w.token) d 21 d' → d' ≡ pledge_image.put w
pledge-stored w e x = whole-struct e x ∙ four-fields (0x47 ∷ 1 ∷ []) w.interface (bytes_of 2 w.port) (w.len ∷ []) w.token

pledge-lawful : RoundTrips pledge_image
pledge-lawful =
    headed-lawful 0x47 (viewed pledge_fields pledge_to pledge_from)
    (viewed-lawful pledge_fields pledge_to pledge_from (λ w. refl) (λ x h. refl)
    (both-lawful _ _ (octets-lawful 8) (both-lawful _ _ (number-lawful 2) (both-lawful _ _ byte-lawful (octets-lawful 8)))))

pub state-images : StateImages
state-images =
    record {
      ledger-size = refl;
      ledger = ledger-lawful;
      proxy-size = refl;
      proxy = proxy-lawful;
      pledge-size = refl;
      pledge = pledge-lawful;
    }
