-- One record of a recorded trace (document 02, request 4): one byte of kind, then a body whose length the kind fixes, numbers big-endian.
use Rattle.std.specs.Prelude.{ℕ, ◌+◌, ◌*◌, ◌-◌, ◌≤◌, ◌≡◌, Bool, true, false, cond, ◌&&◌, leb, eqb}
use Rattle.std.specs.Prelude.{List, [], ◌∷◌, length, take, drop, get_or}
use Rattle.trace_record.specs.declared.entries.Entry.{Entry}
use Rattle.trace_record.specs.declared.entries.Entry.TheVariants.{End, Bad, New, Start, JoinAnswer, Update, Verified, Poll}

-- ---- fields, at the front of some bytes
-- v with the bytes behind it, high byte first
abbrev pub big_endian_on : ℕ → List ℕ → ℕ
big_endian_on v [] = v
big_endian_on v (x ∷ b) = big_endian_on (v * 256 + x) b

-- the number that the first n bytes hold
unfoldable pub number : ℕ → List ℕ → ℕ
number n b = big_endian_on 0 (take n b)

-- all bytes are zero, as unused ones are
abbrev pub zeros : List ℕ → Bool
zeros [] = true
zeros (x ∷ b) = (eqb x 0 && zeros b)

-- the first n bytes are
unfoldable pub blank : ℕ → List ℕ → Bool
blank n b = zeros (take n b)

-- ---- bodies: how many bytes they have, and their fields; b is what follows the kind
abbrev pub body_size : ℕ → ℕ
body_size kind =
    cond (eqb kind 1) 18
    (cond (eqb kind 2) 12 (cond (eqb kind 3) 266 (cond (eqb kind 4) 266 (cond (eqb kind 5) 2 (cond (eqb kind 6) 8 0)))))

-- how many bytes a record has, with the byte of its kind
abbrev pub record_size : ℕ → ℕ
record_size kind = 1 + body_size kind

-- kind 1, new node: role 1, network length 1 (0 to 16, 255 for none), network 16
abbrev pub is_network_length : ℕ → Bool
is_network_length len = cond (eqb len 255) true (leb len 16)

-- how many of the 16 bytes are used
abbrev pub network_used : ℕ → ℕ
network_used len = cond (eqb len 255) 0 len

unfoldable pub new_node : List ℕ → Entry
new_node b =
    cond (leb (get_or b 0 0) 1)
    (cond (is_network_length (get_or b 1 0))
    (cond (blank (16 - network_used (get_or b 1 0)) (drop (2 + network_used (get_or b 1 0)) b)) (New (get_or b 0 0) (get_or b 1 0)) Bad)
    Bad)
    Bad

-- kind 2, start: time 8, first timeout 4
abbrev pub start : List ℕ → Entry
start b = Start (number 8 b) (number 4 (drop 8 b))

-- kinds 3 and 4, join answer and update: time 8, length 2, payload 256
unfoldable pub delivery : (ℕ → ℕ → Entry) → List ℕ → Entry
delivery kind b =
    cond (leb (number 2 (drop 8 b)) 256)
    (cond (blank (256 - number 2 (drop 8 b)) (drop (10 + number 2 (drop 8 b)) b)) (kind (number 8 b) (number 2 (drop 8 b))) Bad)
    Bad

-- which of the two
abbrev pub delivery_of : Bool → ℕ → ℕ → Entry
delivery_of true time len = Update time len
delivery_of false time len = JoinAnswer time len

-- kind 5, verified frame: type 1 (0 beacon, 1 data), identifier 1
unfoldable pub verified : List ℕ → Entry
verified b = cond (leb (get_or b 0 0) 1) (Verified (get_or b 0 0) (get_or b 1 0)) Bad

-- kind 6, poll: time 8
abbrev pub poll : List ℕ → Entry
poll b = Poll (number 8 b)

-- by kind; another kind is unknown
unfoldable pub fields : ℕ → List ℕ → Entry
fields kind b =
    cond (eqb kind 1)
    (new_node b)
    (cond (eqb kind 2)
    (start b)
    (cond (eqb kind 3)
    (delivery (delivery_of false) b)
    (cond (eqb kind 4) (delivery (delivery_of true) b) (cond (eqb kind 5) (verified b) (cond (eqb kind 6) (poll b) Bad)))))

-- what stands at the front of the rest of a trace: its end, a record, or none that is good: cut, of unknown kind, or with a bad field
unfoldable pub entry : List ℕ → Entry
entry [] = End
entry (kind ∷ b) = cond (leb (body_size kind) (length b)) (fields kind b) Bad

-- ---- what is read at a place of n bytes: at the end none is left; a record lies inside, and its lengths are within its fields
abbrev pub Inside : ℕ → ℕ → Entry → Type 0
Inside at n End = n ≤ at
Inside at n Bad = Unit {0}
Inside at n (New role len) = (at + record_size 1 ≤ n) × (network_used len ≤ 16)
Inside at n (Start time timeout) = at + record_size 2 ≤ n
Inside at n (JoinAnswer time len) = (at + record_size 3 ≤ n) × (len ≤ 256)
Inside at n (Update time len) = (at + record_size 4 ≤ n) × (len ≤ 256)
Inside at n (Verified type identifier) = at + record_size 5 ≤ n
Inside at n (Poll time) = at + record_size 6 ≤ n

-- ---- the table of the answer: the number of a record's kind, 0 for what is no record, and its numbers in the order of its fields
abbrev pub kind_number : Entry → ℕ
kind_number End = 0
kind_number Bad = 0
kind_number (New role len) = 1
kind_number (Start time timeout) = 2
kind_number (JoinAnswer time len) = 3
kind_number (Update time len) = 4
kind_number (Verified type identifier) = 5
kind_number (Poll time) = 6

abbrev pub entry_numbers : Entry → List ℕ
entry_numbers End = []
entry_numbers Bad = []
entry_numbers (New role len) = role ∷ len ∷ []
entry_numbers (Start time timeout) = time ∷ timeout ∷ []
entry_numbers (JoinAnswer time len) = time ∷ len ∷ []
entry_numbers (Update time len) = time ∷ len ∷ []
entry_numbers (Verified type identifier) = type ∷ identifier ∷ []
entry_numbers (Poll time) = time ∷ []

-- how many bytes each of these numbers has, by kind
abbrev pub widths : ℕ → List ℕ
widths kind =
    cond (eqb kind 1)
    (1 ∷ 1 ∷ [])
    (cond (eqb kind 2)
    (8 ∷ 4 ∷ [])
    (cond (eqb kind 3)
    (8 ∷ 2 ∷ [])
    (cond (eqb kind 4) (8 ∷ 2 ∷ []) (cond (eqb kind 5) (1 ∷ 1 ∷ []) (cond (eqb kind 6) (8 ∷ []) [])))))

-- numbers of these widths, one behind the other at the front of b
abbrev pub numbers_in : List ℕ → List ℕ → List ℕ
numbers_in [] b = []
numbers_in (w ∷ ws) b = number w b ∷ numbers_in ws (drop w b)

-- a record's first byte is the number of its kind, and its numbers follow
pub record RecordSays (kind : ℕ) (b : List ℕ) (e : Entry) : Type 0 where
  pub kind-is : kind_number e ≡ kind
  pub numbers : entry_numbers e ≡ numbers_in (widths kind) b

-- at the front of s: at its end no record, else a record or none that is good
abbrev pub says_record : List ℕ → Entry → Type 0
says_record [] e = kind_number e ≡ 0
says_record (kind ∷ b) e = (kind_number e ≡ 0 → ⊥) → RecordSays kind b e

abbrev pub EntriesSay : Type 0
EntriesSay = (s : List ℕ) → says_record s (entry s)

-- what stands at a place of the trace s
pub record EntryAt (s : List ℕ) (at : ℕ) (e : Entry) : Type 0 where
  pub says : e ≡ entry (drop at s)
  pub table : says_record (drop at s) e
  pub inside : Inside at (length s) e
