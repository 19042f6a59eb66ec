-- What the contracts of `feed` cite: the machine, and the law about its pieces.
pub mod Feed
pub mod FeedLaws
