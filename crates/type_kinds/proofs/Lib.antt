pub mod TagLaws
