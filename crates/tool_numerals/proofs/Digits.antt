-- HEX read character by character is the bytes that it stands for.
use Prim.Native.Nat.{ℕ, suc, ◌+◌, ◌-◌, ◌*◌, ◌%◌, ◌≤◌, ◌<◌, min}
use native.Mathlib.Omega.{arith}
use native.Mathlib.Numerals.{add-one}
use native.Mathlib.Nat.{add-zero, zero-add, min-eq_left, min-eq_right, mod-eq_of_lt}
use mathlib.Core.Path.{◌≡◌, refl, sym, ap, subst, ◌∙◌}
use mathlib.Core.Bool.{Bool, true, false, cond, not, ◌&&◌, ◌||◌}
use mathlib.Core.List.{List, [], ◌∷◌}
use Rattle.std.specs.Prelude.{Option, None, Some}
use Rattle.std.specs.Option.{is_some}
use borrow.Author.Tests.{leb-true, ltb-true, ltb-false}
use lib.Dec.{leb, ltb, eqb}
use lib.ListN.{length, set, length-set}
use lib.Seq.{set_out, sets}
use Rattle.tool_numerals.specs.Hex.{Sign, Digit, Space, Stray, sign_of, before, digits_of, is_stray, any_stray, bytes_of, is_odd}
use Rattle.tool_numerals.specs.Hex.{fresh, with_character, stored, read_on, written_on, HexIsBytes}
use Rattle.tool_numerals.specs.declared.hex.Hex.{Hex}

-- a digit's value is below 16

abbrev Small : Sign → Type 0
Small (Digit v) = v < 16
Small Space = Unit {0}
Small Stray = Unit {0}

digit_or : (l v c h : ℕ) (a b : Bool) (rest : Sign) → leb c h ≡ b → (c ≤ h → v < 16) → Small rest
    → Small (cond (a && b) (Digit v) rest)
digit_or l v c h true true rest e low other = low (leb-true c h e)
digit_or l v c h true false rest e low other = other
digit_or l v c h false b rest e low other = other

space-or-stray : (b : Bool) → Small (cond b Space Stray)
space-or-stray true = tt
space-or-stray false = tt

small : (c : ℕ) → Small (sign_of c)
small c =
    digit_or 48 (c - 48) c 57 (leb 48 c) (leb c 57) _ refl (λ h. omega arith)
    (digit_or 65 (c - 55) c 70 (leb 65 c) (leb c 70) _ refl (λ h. omega arith)
    (digit_or 97 (c - 87) c 102 (leb 97 c) (leb c 102) _ refl (λ h. omega arith) (space-or-stray (eqb c 32))))

-- what was read, by its fields
abbrev hex_of : ℕ → Option ℕ → Bool → Hex
hex_of len high stray = record { len = len; high = high; stray = stray }

-- the digits that were read and are not yet in the buffer
abbrev waiting : Option ℕ → List ℕ → List ℕ
waiting None digits = digits
waiting (Some high) digits = high % 16 ∷ digits

-- past the end nothing is written
sets-past : (vs l : List ℕ) (i : ℕ) → length l ≤ i → sets l i vs ≡ l
sets-past [] l i h = refl
sets-past (v ∷ vs) l i h = rw (set_out l i v h) (sets-past vs l (suc i) (omega arith))

-- where reading ends, told from where it stands, with digits to come
record Reached (room : ℕ) (h : Hex) (buffer digits : List ℕ) (strays : Bool) (last : Hex) (written : List ℕ) : Type 0 where
  len : last.len ≡ min room (h.len + length (bytes_of (waiting h.high digits)))
  odd : is_some last.high ≡ is_odd (waiting h.high digits)
  stray : last.stray ≡ h.stray || strays
  bytes : written ≡ sets buffer h.len (bytes_of (waiting h.high digits))

even-again : (b : Bool) → b ≡ not (not b)
even-again true = refl
even-again false = refl

or-true : (b : Bool) → true ≡ b || true
or-true true = refl
or-true false = refl

-- a byte's second digit comes: the byte has room, or the buffer is full
byte_more : (room len v high : ℕ) (stray : Bool) (b : Bool) (buffer digits : List ℕ) (strays : Bool) (last : Hex) (written : List ℕ)
    → ltb len room ≡ b → len ≤ room → length buffer ≡ room
    → Reached room (hex_of (cond b (len + 1) len) None stray) (set buffer len (high % 16 * 16 + v)) digits strays last written
    → Reached room (hex_of len (Some high) stray) buffer (v ∷ digits) strays last written
byte_more room len v high stray true buffer digits strays last written e w l r = record {
  len = rw r.len (ap (min room) (omega arith));
  odd = r.odd ∙ even-again (is_odd digits);
  stray = r.stray;
  bytes = rw add-one at r.bytes;
}
byte_more room len v high stray false buffer digits strays last written e w l r =
    let full : room ≤ len = ltb-false len room e in
    record {
      len = rw r.len (min-eq_left (omega arith) ∙ sym (min-eq_left (omega arith)));
      odd = r.odd ∙ even-again (is_odd digits);
      stray = r.stray;
      bytes =
          let here : sets buffer len (bytes_of digits) ≡ buffer = sets-past (bytes_of digits) buffer len (omega arith) in
          let after : sets buffer (suc len) (bytes_of digits) ≡ buffer = sets-past (bytes_of digits) buffer (suc len) (omega arith) in
          r.bytes ∙ rw (set_out buffer len (high % 16 * 16 + v) (omega arith), here, after);
    }

-- a byte's first digit comes, which is below 16
digit_waits : (room len v : ℕ) (stray : Bool) (buffer digits : List ℕ) (strays : Bool) (last : Hex) (written : List ℕ) → v % 16 ≡ v
    → Reached room (hex_of len (Some v) stray) buffer digits strays last written
    → Reached room (hex_of len None stray) buffer (v ∷ digits) strays last written
digit_waits room len v stray buffer digits strays last written e r = record {
  len = subst (λ (d : ℕ). last.len ≡ min room (len + length (bytes_of (d ∷ digits)))) e r.len;
  odd = r.odd;
  stray = r.stray;
  bytes = subst (λ (d : ℕ). written ≡ sets buffer len (bytes_of (d ∷ digits))) e r.bytes;
}

-- a character more
reached-more : (room len : ℕ) (high : Option ℕ) (stray : Bool) (s : Sign) → Small s
    → (buffer digits : List ℕ) (strays : Bool) (last : Hex) (written : List ℕ) → len ≤ room → length buffer ≡ room
    → Reached room (with_character (hex_of len high stray) room s) (stored (hex_of len high stray) buffer s) digits strays last written
    → Reached room (hex_of len high stray) buffer (before s digits) (is_stray s || strays) last written
reached-more room len (Some high) stray (Digit v) small buffer digits strays last written w l r =
    byte_more room len v high stray (ltb len room) buffer digits strays last written refl w l r
reached-more room len None stray (Digit v) small buffer digits strays last written w l r =
    digit_waits room len v stray buffer digits strays last written (mod-eq_of_lt small) r
reached-more room len high stray Space small buffer digits strays last written w l r = r
reached-more room len high stray Stray small buffer digits strays last written w l r =
    record { len = r.len; odd = r.odd; stray = r.stray ∙ or-true stray; bytes = r.bytes }

-- what is read stays within the buffer, and the buffer keeps its length
stays : (room len : ℕ) (high : Option ℕ) (stray : Bool) (s : Sign) → len ≤ room
    → (with_character (hex_of len high stray) room s).len ≤ room
stays room len (Some high) stray (Digit v) w = room_for (ltb len room) refl
  where
    room_for : (b : Bool) → ltb len room ≡ b → cond b (len + 1) len ≤ room
    room_for true e = omega (arith, ltb-true len room e)
    room_for false e = w
stays room len None stray (Digit v) w = w
stays room len high stray Space w = w
stays room len high stray Stray w = w

keeps : (len : ℕ) (high : Option ℕ) (stray : Bool) (buffer : List ℕ) (s : Sign)
    → length (stored (hex_of len high stray) buffer s) ≡ length buffer
keeps len (Some high) stray buffer (Digit v) = length-set buffer len (high % 16 * 16 + v)
keeps len None stray buffer (Digit v) = refl
keeps len high stray buffer Space = refl
keeps len high stray buffer Stray = refl

or-false : (b : Bool) → b ≡ b || false
or-false true = refl
or-false false = refl

none_more : (room len : ℕ) (high : Option ℕ) (stray : Bool) (buffer : List ℕ) → len ≤ room
    → Reached room (hex_of len high stray) buffer [] false (hex_of len high stray) buffer
none_more room len (Some high) stray buffer w =
    record { len = sym (rw add-zero (min-eq_right w)); odd = refl; stray = or-false stray; bytes = refl }
none_more room len None stray buffer w =
    record { len = sym (rw add-zero (min-eq_right w)); odd = refl; stray = or-false stray; bytes = refl }

reached : (chars : List ℕ) (room : ℕ) (h : Hex) (buffer : List ℕ) → h.len ≤ room → length buffer ≡ room
    → Reached room h buffer (digits_of chars) (any_stray chars) (read_on h room chars) (written_on h buffer room chars)
reached [] room h buffer w l = none_more room h.len h.high h.stray buffer w
reached (c ∷ chars) room h buffer w l =
    reached-more room h.len h.high h.stray (sign_of c) (small c) buffer (digits_of chars) (any_stray chars)
    (read_on h room (c ∷ chars)) (written_on h buffer room (c ∷ chars)) w l
    (reached chars room (with_character h room (sign_of c)) (stored h buffer (sign_of c))
    (stays room h.len h.high h.stray (sign_of c) w) (keeps h.len h.high h.stray buffer (sign_of c) ∙ l))

pub hex_is_bytes : HexIsBytes
hex_is_bytes buffer chars =
    let r = reached chars (length buffer) fresh buffer (omega arith) refl in
    (rw (r.stray, r.odd, r.len, zero-add), r.bytes)
