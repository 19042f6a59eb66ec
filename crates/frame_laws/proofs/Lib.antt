pub mod Accepted
pub mod RoundTrip
pub mod Again
