pub mod Rooms
pub mod Gadgets
pub mod WholeTransfers
pub mod WholeReports
pub mod ReceivedReports
pub mod Agreement
pub mod ReadReports
