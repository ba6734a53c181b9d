pub mod Races
