mod Outlooks
