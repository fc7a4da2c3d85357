-- What is promised of the images of keys: their sizes, and that what was stored is loaded as it was, and stored as it stood.
use Rattle.std.specs.Prelude.{◌≡◌}
use Rattle.image.specs.Part.{RoundTrips}
use Rattle.key_image.specs.AdditionalInfo.{additional_info_part}
use Rattle.key_image.specs.Key.{key_part, key_set_part, counted_set_part}

pub record KeyImages : Type 0 where
  pub info-size : additional_info_part.size ≡ 9
  pub info : RoundTrips additional_info_part
  pub key-size : key_part.size ≡ 27
  pub key : RoundTrips key_part
  pub key-set-size : key_set_part.size ≡ 217
  pub key_set : RoundTrips key_set_part
  pub counted-set-size : counted_set_part.size ≡ 249
  pub counted-set : RoundTrips counted_set_part
