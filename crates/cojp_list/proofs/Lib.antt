mod Gathering
mod ByteStrings
mod Reports
mod Again
mod Back
mod Listing
mod InRange
