-- What the code reads and writes at fixed places is what the fields get and put, one after the other.
use Prim.Native.Nat.{ℕ, suc, ◌+◌}
use mathlib.Core.Path.{◌≡◌, ap, sym, ◌∙◌}
use mathlib.Core.Bool.{Bool, true, false, ◌&&◌}
use mathlib.Core.List.{List, [], ◌∷◌, ◌++◌}
use lib.Dec.{eqb}
use lib.ListN.{length, take, drop, get_or}
use lib.Seq.{drop-drop}
use Rattle.byte_io.specs.Write.{Wrote}
use Rattle.byte_io.specs.BigEndian.{big_endian, bytes_of}
use Rattle.lemmas.specs.logic.Tests.{both_left, both_right}
use Rattle.image.specs.Fields.{and-good, two_fields, three-fields, four-fields, whole-struct, wrote-same}
use Rattle.image.specs.Part.{Part, headed, is_headed, is_image}
use Rattle.cojp.specs.declared.address.AddressParameter.{AddressParameter}
use Rattle.cojp.specs.declared.configuration.Configuration.{Configuration}
use Rattle.cojp.specs.declared.error_report.ErrorReports.{ErrorReports}
use Rattle.cojp.specs.declared.key_set.KeysParameter.{KeysParameter}
use Rattle.cojp.specs.declared.list.ListParameter.{ListParameter}
use Rattle.cojp.specs.declared.octets.OctetsParameter.{OctetsParameter}
use Rattle.cojp.specs.declared.rate.RateParameter.{RateParameter}
use Rattle.cojp.specs.declared.request.JoinRequest.{JoinRequest}
use Rattle.object_image.specs.Address.{address_parameter_part}
use Rattle.object_image.specs.Configuration.{keys_parameter_part, earlier_fields, earlier_from, later_fields}
use Rattle.object_image.specs.Configuration.{later_from, configuration_to, configuration_image}
use Rattle.object_image.specs.ErrorReports.{error_reports_part}
use Rattle.object_image.specs.Lists.{list_parameter_part}
use Rattle.object_image.specs.Octets.{octets_parameter_part}
use Rattle.object_image.specs.Rate.{rate_parameter_part}
use Rattle.object_image.specs.Request.{request_fields, request_to, request_image}
use Rattle.object_image.specs.Request as request
use Rattle.object_image.proofs.Got.{here}

-- ---- which bytes are an image
module _ {A : Type 0} (kind : ℕ) (p : Part A) (s : List ℕ) where
  abbrev Long : Bool
  Long = eqb (length s) (suc (suc p.size))

  pub after-head : {r : Bool} → (Long && is_headed kind s) ≡ true → r ≡ p.good (drop 2 s) → r ≡ is_image (headed kind p) s
  after-head e f = rw (both_left Long (is_headed kind s) e, both_right Long (is_headed kind s) e) f

-- ---- join requests
module _ (s : List ℕ) where
  pub request-bad : octets_parameter_part.good (drop 3 s) ≡ false → false ≡ request_fields.good (drop 2 s)
  request-bad e = rw (drop-drop 1 2 s, e)

  pub request-got : {n : OctetsParameter} {u : ListParameter} {x : ErrorReports} {k : ℕ} → n ≡ octets_parameter_part.get (drop 3 s)
      → u ≡ list_parameter_part.get (drop 21 s) → x ≡ error_reports_part.get (drop 277 s) → k ≡ big_endian (take 8 (drop 288 s))
      → request_to (get_or s 2 0, (n, (u, (x, k)))) ≡ request_image.get s
  request-got e f g h = rw (e, f, g, h, here s 2, drop-drop 1 2 s, drop-drop 18 3 s, drop-drop 256 21 s, drop-drop 11 277 s)

pub later-request-wrote : (q : JoinRequest) {d e : List ℕ} {n : ℕ}
    → Wrote ((list_parameter_part.put q.unsupported ++ error_reports_part.put q.errors) ++ bytes_of 8 q.unknown) d n e
    → Wrote ((request.later_fields).put (request.later_from q)) d n e
later-request-wrote q w =
    wrote-same (two_fields (list_parameter_part.put q.unsupported) (error_reports_part.put q.errors) (bytes_of 8 q.unknown)) w

pub request-stored : (q : JoinRequest) {d e : List ℕ} → length d ≡ 296
    → (let later = (request.later_fields).put (request.later_from q) in
    Wrote ((((0x51 ∷ 1 ∷ []) ++ (q.role ∷ [])) ++ octets_parameter_part.put q.network) ++ later) d 296 e) → e ≡ request_image.put q
request-stored q h w =
    whole-struct h w
    ∙ three-fields (0x51 ∷ 1 ∷ []) (q.role ∷ []) (octets_parameter_part.put q.network) ((request.later_fields).put (request.later_from q))

-- ---- configurations
-- five questions in a row: the answer where the first, second, .. says no, and where the fifth decides
module _ (a b c d e : Bool) where
  abbrev Five : Bool
  Five = (a && (b && (c && (d && e))))

  no_second : a ≡ true → b ≡ false → false ≡ Five
  no_second p q = rw (p, q)

  no_third : a ≡ true → b ≡ true → c ≡ false → false ≡ Five
  no_third p q r = rw (p, q, r)

  no-fourth : a ≡ true → b ≡ true → c ≡ true → d ≡ false → false ≡ Five
  no-fourth p q r t = rw (p, q, r, t)

  by-fifth : {z : Bool} → a ≡ true → b ≡ true → c ≡ true → d ≡ true → z ≡ e → z ≡ Five
  by-fifth p q r t u = rw (p, q, r, t) u

-- what each half asks, one field after the other
module _ (s : List ℕ) (at : ℕ) where
  abbrev x : List ℕ
  x = drop at s

  abbrev keys : Bool
  keys = keys_parameter_part.good x

  abbrev address : Bool
  address = address_parameter_part.good (drop (at + 218) s)

  abbrev string : ℕ → Bool
  string k = octets_parameter_part.good (drop (at + k) s)

  earlier-asks : Five keys address (string 230) (string 248) (string 266) ≡ earlier_fields.good x
  earlier-asks =
      rw (drop-drop 12 218 x, drop-drop 18 230 x, drop-drop 18 248 x)
      (rw (drop-drop 218 at s, drop-drop 230 at s, drop-drop 248 at s, drop-drop 266 at s))

  pub bad-address : keys ≡ true → address ≡ false → false ≡ earlier_fields.good x
  bad-address p q = no_second keys address (string 230) (string 248) (string 266) p q ∙ earlier-asks

  pub bad-jrc : keys ≡ true → address ≡ true → string 230 ≡ false → false ≡ earlier_fields.good x
  bad-jrc p q r = no_third keys address (string 230) (string 248) (string 266) p q r ∙ earlier-asks

  pub bad-network : keys ≡ true → address ≡ true → string 230 ≡ true → string 248 ≡ false → false ≡ earlier_fields.good x
  bad-network p q r t = no-fourth keys address (string 230) (string 248) (string 266) p q r t ∙ earlier-asks

  pub by-prefix : {z : Bool} → keys ≡ true → address ≡ true → string 230 ≡ true → string 248 ≡ true → z ≡ string 266
      → z ≡ earlier_fields.good x
  by-prefix p q r t u = by-fifth keys address (string 230) (string 248) (string 266) p q r t u ∙ earlier-asks

  pub by-rate : {z : Bool} → list_parameter_part.good x ≡ true → z ≡ rate_parameter_part.good (drop (at + 256) s) → z ≡ later_fields.good x
  by-rate p u = rw (p, drop-drop 256 at s) (u ∙ and-good (rate_parameter_part.good (drop (at + 256) s)))

module _ (s : List ℕ) where
  abbrev halves : Bool
  halves = (earlier_fields.good (drop 2 s) && later_fields.good (drop 284 (drop 2 s)))

  pub bad-half : earlier_fields.good (drop 2 s) ≡ false → false ≡ halves
  bad-half p = rw p

  pub by-half : {z : Bool} → earlier_fields.good (drop 2 s) ≡ true → z ≡ later_fields.good (drop 286 s) → z ≡ halves
  by-half p u = rw p (u ∙ ap later_fields.good (sym (drop-drop 284 2 s)))

  pub configuration-got : {k : KeysParameter} {a : AddressParameter} {j n p : OctetsParameter} {l : ListParameter} {r : RateParameter}
      {c : ErrorReports} {m : ℕ} → k ≡ keys_parameter_part.get (drop 2 s) → a ≡ address_parameter_part.get (drop 220 s)
      → j ≡ octets_parameter_part.get (drop 232 s) → n ≡ octets_parameter_part.get (drop 250 s) → p ≡ octets_parameter_part.get (drop 268 s)
      → l ≡ list_parameter_part.get (drop 286 s) → r ≡ rate_parameter_part.get (drop 542 s) → c ≡ error_reports_part.get (drop 551 s)
      → m ≡ big_endian (take 8 (drop 562 s))
      → configuration_to ((k, (a, (j, (n, p)))), (l, (r, (c, m)))) ≡ configuration_image.get s
  configuration-got e f g h i j k l m =
      rw (e, f, g, h, i, j, k, l, m, drop-drop 218 2 s, drop-drop 12 220 s, drop-drop 18 232 s, drop-drop 18 250 s)
      (rw (drop-drop 284 2 s, drop-drop 256 286 s, drop-drop 9 542 s, drop-drop 11 551 s))

module _ (c : Configuration) where
  abbrev k : List ℕ
  k = keys_parameter_part.put c.keys

  abbrev a : List ℕ
  a = address_parameter_part.put c.address

  abbrev o : OctetsParameter → List ℕ
  o p = octets_parameter_part.put p

  pub earlier-wrote : {d e : List ℕ} {n : ℕ} → Wrote ((((k ++ a) ++ o c.jrc) ++ o c.network) ++ o c.prefix) d n e
      → Wrote (earlier_fields.put (earlier_from c)) d n e
  earlier-wrote w = wrote-same (four-fields k a (o c.jrc) (o c.network) (o c.prefix)) w

  abbrev l : List ℕ
  l = list_parameter_part.put c.blacklist

  abbrev r : List ℕ
  r = rate_parameter_part.put c.rate

  abbrev f : List ℕ
  f = error_reports_part.put c.labels

  pub later-wrote : {d e : List ℕ} {n : ℕ} → Wrote (((l ++ r) ++ f) ++ bytes_of 8 c.unknown) d n e
      → Wrote (later_fields.put (later_from c)) d n e
  later-wrote w = wrote-same (three-fields l r f (bytes_of 8 c.unknown)) w

  abbrev earlier : List ℕ
  earlier = earlier_fields.put (earlier_from c)

  abbrev later : List ℕ
  later = later_fields.put (later_from c)

  pub configuration-stored : {d e : List ℕ} → length d ≡ 570 → Wrote (((0x43 ∷ 1 ∷ []) ++ earlier) ++ later) d 570 e
      → e ≡ configuration_image.put c
  configuration-stored h w = whole-struct h w ∙ two_fields (0x43 ∷ 1 ∷ []) earlier later
