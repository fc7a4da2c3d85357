-- Additional information of a key as bytes, 9 of them: how many bytes it has, 0, 4 or 8, and eight bytes, zeros after the first so many.
-- So there is one image for each value.
use Rattle.std.specs.Prelude.{ℕ, Bool, true, cond, ◌&&◌, ◌||◌, List, ◌≡◌, eqb, drop, get_or}
use Rattle.image.specs.Part.{Part, byte, octets, both, viewed}
use Rattle.link_key.specs.AdditionalInfo.{padded_bytes}
use Rattle.link_key.specs.declared.additional_info.AdditionalInfo.{AdditionalInfo}
use Rattle.link_key.specs.declared.additional_info.AdditionalInfo.TheVariants.{Absent, Four, Eight}
use Rattle.link_key.specs.set.Lists.{all_of}

-- those values of a part alone that pass a test
abbrev pub such : {A : Type 0} → (A → Bool) → Part A → Part A
such test p =
    record {
      size = p.size;
      put = p.put;
      get = p.get;
      good = λ s. (p.good s && test (p.get s));
      Fit = λ a. p.Fit a × (test a ≡ true);
    }

abbrev pub is_zero : ℕ → Bool
is_zero b = eqb b 0

-- 0, 4 or 8 bytes, and zeros after them
abbrev pub is_padded_bytes : ℕ × List ℕ → Bool
is_padded_bytes x = ((eqb x.0 0 || eqb x.0 4 || eqb x.0 8) && all_of is_zero (drop x.0 x.1))

-- the information that the first so many of eight bytes are
abbrev pub additional_info_to : ℕ × List ℕ → AdditionalInfo
additional_info_to x =
    let at : ℕ → ℕ = λ i. get_or x.1 i 0 in
    cond (eqb x.0 0) Absent
    (cond (eqb x.0 4) (Four (at 0) (at 1) (at 2) (at 3)) (Eight (at 0) (at 1) (at 2) (at 3) (at 4) (at 5) (at 6) (at 7)))

abbrev pub additional_info_from : AdditionalInfo → ℕ × List ℕ
additional_info_from i = ((padded_bytes i).len, (padded_bytes i).bytes)

abbrev pub additional_info_fields : Part (ℕ × List ℕ)
additional_info_fields = such is_padded_bytes (both byte (octets 8))

abbrev pub additional_info_part : Part AdditionalInfo
additional_info_part = viewed additional_info_fields additional_info_to additional_info_from
