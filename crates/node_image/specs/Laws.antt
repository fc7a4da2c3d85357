-- What is promised of the images: their sizes, and that what was stored is loaded as it was, and stored as it stood.
use Rattle.std.specs.Prelude.{◌≡◌}
use Rattle.image.specs.Part.{RoundTrips}
use Rattle.node_image.specs.Answers.{dispositions_image, frame_key_image}
use Rattle.node_image.specs.Node.{node_image}

pub record NodeImages : Type 0 where
  pub node-size : node_image.size ≡ 878
  pub node : RoundTrips node_image
  pub reports-size : dispositions_image.size ≡ 17
  pub reports : RoundTrips dispositions_image
  pub frame-key-size : frame_key_image.size ≡ 33
  pub frame-key : RoundTrips frame_key_image
