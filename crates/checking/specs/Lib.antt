pub mod Turned
pub mod Keeping
pub mod Standing
pub mod Opening
pub mod Working
pub mod Showing
pub mod Replay
pub mod Lines
