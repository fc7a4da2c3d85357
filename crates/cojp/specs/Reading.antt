-- What reading comes to, and how a known label's value is read: it is judged, and from the judgement follows what document 01 says.
use Rattle.std.specs.Prelude.{ℕ, Result, Ok, Err}
use Rattle.refusal.specs.declared.Refusal.{Refusal}
use Rattle.refusal.specs.declared.Refusal.TheVariants as refusal
use Rattle.refusal.specs.Verdict.{Verdict}
use Rattle.protocol_version.specs.Version.{by_version}
use Rattle.cojp.specs.declared.disposition.Disposition.{Disposition}
use Rattle.cojp.specs.declared.disposition.Disposition.TheVariants.{Absent, Taken, Discarded}
use Rattle.protocol_version.specs.declared.Version.{Version}

-- a refusal, or what was read
pub data Reading (A : Type 0) : Type 0 where
  refused : Refusal → Reading A
  read : A → Reading A

abbrev pub bind : {A B : Type 0} → Reading A → (A → Reading B) → Reading B
bind (refused k) f = refused k
bind (read a) f = f a

-- what was read, put in its place
abbrev pub map_reading : {A B : Type 0} → (A → B) → Reading A → Reading B
map_reading f (refused k) = refused k
map_reading f (read a) = read (f a)

-- what an answer says: beside a refusal nothing is looked at
abbrev pub result_of : {A : Type 0} → Verdict → A → Reading A
result_of (Ok tt) a = read a
result_of (Err k) a = refused k

-- what a reader at a place says: a refusal, or what was read, beside which stands where the bytes go on
abbrev pub read_by : {A : Type 0} → Result (A × ℕ) Refusal → Reading A
read_by (Err k) = refused k
read_by (Ok r) = read r.0

-- what an answer that accepts promises besides
abbrev pub Accepting : Verdict → Type 0 → Type 0
Accepting (Ok tt) P = P
Accepting (Err k) P = Unit {0}

-- a known label's value: of another kind or pattern; of the pattern, but outside the limits of its content; or good
pub data Judgement (A : Type 0) : Type 0 where
  broken : Judgement A
  unfit : Judgement A
  good : A → Judgement A

-- a broken pattern is TYPE; what is outside the limits depends on the parameter; a good value is taken
abbrev pub concluded : {A P : Type 0} → Reading P → (A → P) → Judgement A → Reading P
concluded outside take broken = refused refusal.«Type»
concluded outside take unfit = outside
concluded outside take (good a) = read (take a)

-- in the published form what is bad is reported, whatever is bad about it: nothing of it is taken, and the payload is not refused
abbrev pub malformed_as : {P : Type 0} → P → Reading P → P
malformed_as bad (refused k) = bad
malformed_as bad (read p) = p

-- what follows from a known label's value in each form, `bad` being the parameter with nothing taken
abbrev pub by_version_of : {P : Type 0} → Version → P → Reading P → Reading P
by_version_of v bad r = by_version v r (read (malformed_as bad r))

-- one thing where a parameter is taken, another where it is absent or discarded
abbrev pub if_taken : {A : Type 0} → Disposition → A → A → A
if_taken Absent a b = b
if_taken Taken a b = a
if_taken Discarded a b = b
