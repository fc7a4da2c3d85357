-- What is promised of the images: their sizes, and that what was stored is loaded as it was, and stored as it stood.
use Rattle.std.specs.Prelude.{◌≡◌}
use Rattle.image.specs.Part.{RoundTrips}
use Rattle.state_image.specs.Ledger.{ledger_image}
use Rattle.state_image.specs.Proxy.{proxy_image, pledge_image}

pub record StateImages : Type 0 where
  pub ledger-size : ledger_image.size ≡ 16
  pub ledger : RoundTrips ledger_image
  pub proxy-size : proxy_image.size ≡ 26
  pub proxy : RoundTrips proxy_image
  pub pledge-size : pledge_image.size ≡ 21
  pub pledge : RoundTrips pledge_image
