pub mod Sent
pub mod Serving
pub mod Streams
pub mod UnderWay
