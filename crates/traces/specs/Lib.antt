pub mod Proper
pub mod Making
pub mod Programs
pub mod Traces
pub mod Tables
pub mod Codes
