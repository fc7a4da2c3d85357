pub mod Bodies
pub mod Plans
pub mod Judgements
pub mod Histories
pub mod Forwarding
pub mod AllLaws
pub mod Played
