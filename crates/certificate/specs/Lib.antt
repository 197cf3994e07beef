pub mod Devices
pub mod Weighings
pub mod Certificates
pub mod Faults
