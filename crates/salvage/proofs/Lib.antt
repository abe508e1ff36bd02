pub mod LawsRooms
