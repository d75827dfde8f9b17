-- Laws of requests.
pub mod Requests
