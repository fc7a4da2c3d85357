-- FIPS 197: the field and the cipher. Words and Laws are what is claimed beside it, over the lists of bytes in Bounds.
pub mod Bounds
pub mod BoundsLemmas
pub mod Field
pub mod Cipher
pub mod Words
pub mod Laws
